-- What the parts of a call ask of the work slices. Assumes nothing.
pub mod Standing
