-- The laws that the proofs of an iteration cite. Assumes nothing.
pub mod RootFound
pub mod RawMade
pub mod SidesMade
pub mod SolveMade
pub mod StepMade
pub mod IterationMade
pub mod MovedMeans
