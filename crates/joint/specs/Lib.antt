-- The joint rule over the work slices. Assumes nothing.
pub mod Joint
