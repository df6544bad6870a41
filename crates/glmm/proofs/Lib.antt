-- The laws that the proofs of a call cite. Assumes nothing.
pub mod Asking
pub mod Written
pub mod Room
pub mod Wiping
pub mod ByVerdict
