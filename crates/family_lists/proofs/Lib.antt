-- The laws that the proofs of this crate cite, and what is fixed of the AIC. Assumes nothing.
pub mod Listing
pub mod AicFacts
pub mod Unique
