-- Laws of a point. Assumes nothing.
pub mod Digits
pub mod Kept
pub mod Moved
pub mod Within
pub mod Marks
pub mod Entered
pub mod Unique
