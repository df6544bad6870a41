-- The call that a sound job asks for. Assumes nothing.
pub mod Asked
