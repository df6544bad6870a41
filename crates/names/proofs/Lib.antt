-- The laws that the proofs cite, and what is fixed of the names. Assumes nothing.
pub mod Trims
pub mod Spelled
pub mod NameFacts
