-- What happens at one point, as the work slices hold it. Assumes nothing.
pub mod Gain
pub mod Grid
