-- Where the lists of a fitted call stand in one buffer. Assumes nothing.
pub mod Flat
