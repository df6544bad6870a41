-- What a call with a code that names nothing shows, what a number other than 0 leaves, what a higher limit changes, one answer, and examples. Assumes nothing.
pub mod Shown
pub mod Kept
pub mod Higher
pub mod Unnamed
pub mod Unique
pub mod Examples
