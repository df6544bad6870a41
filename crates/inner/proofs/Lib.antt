-- The laws that the proofs of the inner fit with its quadrature cite. Assumes nothing.
pub mod Stepped
pub mod Answering
pub mod Unique
