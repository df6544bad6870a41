-- The square root: its definition, and what nearest means. Assumes nothing.
pub mod Sqrt
pub mod Near
