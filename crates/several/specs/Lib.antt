-- The log terms of a quadrature with several effects at a point, over the work slices. Assumes nothing.
pub mod Several
