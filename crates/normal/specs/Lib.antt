-- The normal distribution function, its density and its quantile as ordered operations. Assumes nothing.
pub mod Constants
pub mod QuantileConstants
pub mod Tail
pub mod Normal
pub mod Quantile
