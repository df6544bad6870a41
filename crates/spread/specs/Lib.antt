-- L z, by entries. Assumes nothing.
pub mod Spread
