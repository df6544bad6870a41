-- The lines of the output. Document 01, "The job and the program". Assumes nothing.
pub mod Decimals
pub mod Lines
