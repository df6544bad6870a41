-- The shape of a list of blocks. Assumes nothing.
pub mod Blocks
