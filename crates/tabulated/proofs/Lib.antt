-- A law of a `match` on a number. Assumes nothing.
pub mod Arms
