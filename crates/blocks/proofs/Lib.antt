-- One answer, which lists of blocks are refused, and examples. Assumes nothing.
pub mod Unique
pub mod Counts
pub mod Examples
