-- The contracts of what C calls. Assumes nothing.
pub mod Same
