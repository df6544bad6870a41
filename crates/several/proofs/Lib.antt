-- Laws of the log terms with several effects at a point. Assumes nothing.
pub mod Nodes
pub mod Trials
pub mod Terms
pub mod Turns
pub mod SeveralRuled
pub mod Unique
