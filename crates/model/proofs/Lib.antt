-- Laws of the crate's definitions. Every contract is one equation of the answer with a definition, so base's `one_value` leaves one answer. Assumes nothing.
pub mod Tests
pub mod Totals
pub mod Codes
pub mod Shapes
pub mod Sized
pub mod Accounts
pub mod Caps
pub mod Tallies
pub mod Parts
pub mod Answers
pub mod Examples
