-- Which calls the format can say. Assumes nothing.
pub mod Sayable
