-- The laws that the proofs of this crate cite, and that each contract leaves one answer. Assumes nothing.
pub mod Entries
pub mod Slopes
pub mod Unique
