-- The inner fit with its quadrature over the work slices, in the rule's words. Assumes nothing.
pub mod Read
pub mod Answered
