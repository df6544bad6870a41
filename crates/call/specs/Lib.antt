-- A call of the fit: the fit that it asks for, its answer, and what it leaves in every lent slice. Assumes nothing.
pub mod Fit
pub mod Call
