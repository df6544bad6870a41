-- The call over a list of blocks as C has it: codes for the names, and an answer of plain numbers. Assumes nothing.
pub mod Coded
pub mod Plain
