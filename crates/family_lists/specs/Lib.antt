-- The links and families over lists, and the AIC. Assumes nothing.
pub mod Lists
pub mod Aic
