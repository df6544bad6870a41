-- The quadrature over the work slices. Assumes nothing.
pub mod Gained
pub mod One
