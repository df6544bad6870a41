-- What the program holds of its input. Assumes nothing.
pub mod Held
