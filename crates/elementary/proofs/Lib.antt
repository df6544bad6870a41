-- What is fixed of the four functions. Assumes nothing.
pub mod ExpFacts
pub mod LogFacts
pub mod Computed
pub mod Expm1Facts
pub mod Log1pFacts
pub mod Infinite
