-- The laws of reading an input. Assumes nothing.
pub mod Steps
