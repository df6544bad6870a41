-- Many responses on one design: what a call leaves, and what its functions ask of the lent lists. Assumes nothing.
pub mod Many
pub mod Room
