-- Λ and its products. Assumes nothing.
pub mod Column
pub mod Product
pub mod Parts
