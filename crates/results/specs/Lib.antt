-- The nine results of a fitted call, and what their writer asks of its arguments. Assumes nothing.
pub mod Nine
pub mod Room
