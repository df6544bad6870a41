-- The inner fit over the work slices, in the rule's words. Assumes nothing.
pub mod Inner
