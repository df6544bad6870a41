-- The laws of the fit of a job that has been read. Assumes nothing.
pub mod Behind
pub mod Lent
pub mod Reading
pub mod Lengths
