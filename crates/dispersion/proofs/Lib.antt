-- Laws and theorems of the dispersion loop. Assumes nothing.
pub mod Turns
pub mod Capped
pub mod Accepted
pub mod Higher
pub mod Reported
pub mod Unique
pub mod Edges
