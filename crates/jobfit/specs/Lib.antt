-- The fit of a job that has been read, and what it leaves in the lent buffers. Assumes nothing.
pub mod Done
pub mod Room
