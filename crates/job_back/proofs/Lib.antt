-- A job that is written is read as it was. Assumes nothing.
pub mod Pieces
pub mod Places
pub mod Head
pub mod Body
pub mod Rows
pub mod SoundParts
pub mod Back
pub mod CaseJ
pub mod Said
pub mod Versions
pub mod Limits
