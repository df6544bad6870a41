-- The laws that the proofs of this crate cite, and that each contract leaves one content. Assumes nothing.
pub mod Made
pub mod Unique
