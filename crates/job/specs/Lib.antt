-- The job format, in both directions. Document 01, "The job and the program". Assumes nothing.
pub mod Lists
pub mod Format
pub mod Heads
pub mod Places
pub mod Faults
pub mod Survey
pub mod Job
pub mod Write
