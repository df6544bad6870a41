-- What follows from the definition of the output. Assumes nothing.
pub mod Long
pub mod CaseJ
pub mod Terms
pub mod Unique
