-- What follows from the definition of a call. Assumes nothing.
pub mod Leaves
pub mod Higher
pub mod Capped
pub mod CappedBy
pub mod Parts
pub mod Told
pub mod Unique
pub mod Stopped
pub mod Whys
pub mod When
pub mod Ranged
pub mod Starts
