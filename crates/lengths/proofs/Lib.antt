-- The laws of the lengths that are asked for. Assumes nothing.
pub mod Within
