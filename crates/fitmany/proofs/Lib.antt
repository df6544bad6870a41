-- The laws of the program. Assumes nothing.
pub mod Reading
