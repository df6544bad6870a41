-- The laws that the proofs of a solve cite. Assumes nothing.
pub mod Steps
pub mod FactoredSystem
pub mod SolvedBeta
pub mod Unique
