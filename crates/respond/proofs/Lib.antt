-- The laws of the program's function. Assumes nothing.
pub mod Found
pub mod Telling
