-- What the first and the last stage of an iteration leave. Assumes nothing.
pub mod Held
pub mod Weighed
pub mod Stopped
