-- What a quadrature is made of. Assumes nothing.
pub mod Orders
pub mod Rules
pub mod LogSum
