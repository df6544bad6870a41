-- Laws of products with X and with the solved columns. Assumes nothing.
pub mod Columns
pub mod CrossSums
pub mod Unique
