-- The laws that the proofs cite, and the theorems on the square root. Assumes nothing.
pub mod Squares
pub mod Place
pub mod Units
pub mod Cases
pub mod Correct
pub mod SqrtFacts
