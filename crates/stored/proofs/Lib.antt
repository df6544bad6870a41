-- Laws of products with Z'. Assumes nothing.
pub mod StoredRows
pub mod Parted
pub mod Merge
pub mod Added
pub mod Symmetry
pub mod Apart
pub mod Unique
