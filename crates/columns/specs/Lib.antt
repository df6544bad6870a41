-- What the columns of X leave in the work slices. Assumes nothing.
pub mod Columns
pub mod Weighted
pub mod Pieces
