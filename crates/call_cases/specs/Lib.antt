-- What a call tells, for the closed cases. Assumes nothing.
pub mod Told
