-- What the program prints of an input. Assumes nothing.
pub mod Input
