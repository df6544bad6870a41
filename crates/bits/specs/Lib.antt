-- The bits of a job's bytes. Assumes nothing.
pub mod Bits
