-- The laws of a call of many responses. Assumes nothing.
pub mod Parts
pub mod Single
pub mod Alone
pub mod Each
pub mod Higher
pub mod Calls
pub mod Placing
pub mod Asked
pub mod Telling
pub mod Refusals
pub mod One
pub mod Jobs
pub mod Unique
pub mod Examples
