-- The fit of an accepted call over the work slices, in the words of the dispersion loop. Assumes nothing.
pub mod Totals
pub mod Fitted
