-- What a caller must lend for the sizes of a call. Assumes nothing.
pub mod Asked
