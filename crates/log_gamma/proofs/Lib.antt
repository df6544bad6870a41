-- The steps of ln_gamma from 3 to 8, and what is fixed of it. Assumes nothing.
pub mod Lowered
pub mod LogGammaFacts
