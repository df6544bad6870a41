-- The laws that the sums and the steps cite. Assumes nothing.
pub mod Told
pub mod Framed
pub mod Fronts
pub mod Grids
pub mod OneSummed
pub mod Unique
