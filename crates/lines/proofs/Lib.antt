-- The laws of lines. Assumes nothing.
pub mod DigitLaws
pub mod Pieces
pub mod LineCases
pub mod Unique
