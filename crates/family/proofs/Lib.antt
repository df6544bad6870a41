-- The laws that the proofs of this crate cite, and what is fixed of links and families. Assumes nothing.
pub mod Cases
pub mod MeanRange
pub mod Floors
pub mod OutOfRange
pub mod InRange
pub mod ValidPairs
pub mod Values
