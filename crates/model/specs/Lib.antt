-- What a call of the fit is made of: names, sizes, account and answer. Document 01, "What the port carries" and "Numbers of an answer". Assumes nothing.
pub mod Names
pub mod Shape
pub mod Settings
pub mod Inputs
pub mod Account
pub mod Items
pub mod Caps
pub mod Answer
