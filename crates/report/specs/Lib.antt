-- All that is printed of one answer. Document 01, "The job and the program". Assumes nothing.
pub mod Report
