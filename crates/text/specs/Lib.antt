-- What the programs' text is made of. Assumes nothing.
pub mod Hex
pub mod Specials
