-- What is fixed of the normal distribution function, its density and its quantile. Assumes nothing.
pub mod NormalFacts
pub mod QuantileFacts
