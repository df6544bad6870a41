-- What is printed of a call of many responses, as one function of the bytes that were read. Document 02, P1. Assumes nothing.
pub mod Text
pub mod Input
pub mod Pieces
pub mod Output
