-- The laws of what is printed of many responses. Assumes nothing.
pub mod Back
pub mod Reading
pub mod Parts
pub mod Written
pub mod Fitting
pub mod Printed
pub mod Long
pub mod Unique
pub mod Higher
