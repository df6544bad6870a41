-- Laws of the inner fit with its quadrature. Assumes nothing.
pub mod Limits
pub mod Caps
pub mod Edges
pub mod Whys
