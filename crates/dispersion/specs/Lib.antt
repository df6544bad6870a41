-- The dispersion loop: the numbers of one round, and the rounds over any inner fit. Assumes nothing.
pub mod Phi
pub mod Rounds
