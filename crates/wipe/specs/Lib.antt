-- The work slices after an accepted call. Assumes nothing.
pub mod Wiped
