-- The contract of every function at the edge, stated once more. Assumes nothing.
pub mod Elementary
pub mod Job
pub mod Blocks
pub mod Lists
