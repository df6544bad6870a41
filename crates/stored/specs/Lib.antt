-- Products with Z', by entries. Assumes nothing.
pub mod Stored
pub mod Symmetric
pub mod Marks
pub mod Lent
