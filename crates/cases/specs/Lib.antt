-- The thirteen cases to be proved, in one table. Document 01, "Cases to prove (one table) and to run". Assumes nothing.
pub mod Thirteen
