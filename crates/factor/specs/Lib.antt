-- Factors of the lower triangle of a matrix, substitution with them, and inverses. Assumes nothing.
pub mod Triangle
pub mod Factor
pub mod Substitution
pub mod Heads
pub mod Sides
pub mod Inverse
pub mod Transpose
pub mod Textbook
