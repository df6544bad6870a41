-- What the program prints, as one function of the bytes of a job. Document 01, "The job and the program". Assumes nothing.
pub mod Output
