-- The laws of a report. Assumes nothing.
pub mod Lengths
pub mod Growing
pub mod Unique
