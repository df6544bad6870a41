-- The written rule of the two quadrature steps, and of the inner fit with them. Assumes nothing.
pub mod Point
pub mod Scale
pub mod Term
pub mod Steps
pub mod Declining
pub mod Inner
