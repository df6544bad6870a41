-- What an inner fit tells, for the closed cases. Assumes nothing.
pub mod Told
