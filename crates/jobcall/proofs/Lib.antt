-- The laws of the call with a job. Assumes nothing.
pub mod Stores
pub mod Telling
pub mod Kept
pub mod NeverFive
pub mod Unique
pub mod Higher
