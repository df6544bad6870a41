-- The laws that the proofs of this crate cite. Assumes nothing.
pub mod AtTheStop
pub mod HeldRows
pub mod WeighedRows
