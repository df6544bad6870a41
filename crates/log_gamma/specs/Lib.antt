-- ln_gamma as ordered operations. Assumes nothing.
pub mod Constants
pub mod Near
pub mod LogGamma
