-- The laws of reading. Assumes nothing.
pub mod Laying
pub mod RowReads
pub mod Rooms
pub mod Unique
