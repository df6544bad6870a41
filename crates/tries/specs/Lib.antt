-- The tries of one iteration, in the rule's words. Assumes nothing.
pub mod Told
