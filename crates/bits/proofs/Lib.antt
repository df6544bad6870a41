-- The laws of the bits of a list. Assumes nothing.
pub mod BitLaws
pub mod ByteLaws
