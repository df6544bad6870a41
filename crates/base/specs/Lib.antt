-- The vocabulary of every definition of the project. Assumes nothing.
pub mod Number
pub mod Sum
pub mod List
pub mod Rows
pub mod InPlace
pub mod Sparse
