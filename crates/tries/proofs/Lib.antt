-- Laws of the tries of one iteration. Assumes nothing.
pub mod Turns
pub mod Tried
pub mod Counted
pub mod Unique
