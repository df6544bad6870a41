-- The laws that the proofs of the fit cite. Assumes nothing.
pub mod Started
pub mod Ends
pub mod Going
pub mod Unique
