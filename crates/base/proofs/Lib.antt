-- The laws that the proofs of every crate cite. Assumes nothing.
pub mod Doubles
pub mod Rounded
pub mod Commutes
pub mod Sums
pub mod Order
pub mod Fills
pub mod Rows
pub mod TwoRows
pub mod Every
pub mod InPlace
pub mod SparseRows
pub mod Loops
pub mod NumberFacts
pub mod Unique
