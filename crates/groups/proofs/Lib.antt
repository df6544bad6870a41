-- The laws that the proofs of the groups cite. Assumes nothing.
pub mod SeveralSummed
pub mod Looped
