-- The thirteen cases, proved. Assumes nothing.
pub mod Table
