-- That the contract leaves one content of each work slice. Assumes nothing.
pub mod Unique
