-- Why L z may end at the diagonal: zeros at the end of a sum add nothing; and one times a double is the double. Assumes nothing.
pub mod Same
pub mod AddZero
pub mod OneTimes
pub mod Lower
pub mod Unique
