-- What a contract without a `requires` promises. Assumes nothing.
pub mod Promise
