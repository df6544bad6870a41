-- The laws that the proofs of the table cite, and its theorems. Assumes nothing.
pub mod Meant
pub mod Accepting
pub mod Exactly
pub mod When
pub mod Unique
