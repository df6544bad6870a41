-- What the functions over the work slices tell of a group's scale. Assumes nothing.
pub mod Tells
