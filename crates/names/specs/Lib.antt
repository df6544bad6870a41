-- The names of the links. Assumes nothing.
pub mod Names
pub mod Trimmed
