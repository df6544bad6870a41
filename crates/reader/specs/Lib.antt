-- Reading a job into lent slices. Document 01, "The job and the program". Assumes nothing.
pub mod Reading
