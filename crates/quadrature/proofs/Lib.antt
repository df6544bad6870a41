-- The laws that the proofs of this crate cite, and what document 01 fixes of orders, rules and log sums. Assumes nothing.
pub mod Powers
pub mod Chosen
pub mod RuleFacts
pub mod Padded
pub mod OrderFacts
pub mod Cases
pub mod LogSums
pub mod Declines
