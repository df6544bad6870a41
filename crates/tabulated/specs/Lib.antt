-- The tables of exp and ln. Assumes nothing.
pub mod ExpTable
pub mod LogTable
