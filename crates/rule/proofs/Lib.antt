-- Theorems about the rule. Assumes nothing.
pub mod Stopping
pub mod Limits
pub mod Accepted
pub mod Fates
pub mod Caps
pub mod Edges
