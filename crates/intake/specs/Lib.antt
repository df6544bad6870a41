-- What one read of an input leads to. Assumes nothing.
pub mod Intake
