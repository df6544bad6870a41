-- One iteration of the inner fit over the work slices, in the rule's words. Assumes nothing.
pub mod Held
pub mod Solving
pub mod Iterated
