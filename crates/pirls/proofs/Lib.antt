-- The laws that the proof of the inner fit cites. Assumes nothing.
pub mod Turns
pub mod Fitted
pub mod Unique
