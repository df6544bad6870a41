-- The product rule over the work slices. Assumes nothing.
pub mod Rules
