-- The table of refusals: what a call is given, the tests, the table, and what an accepted call has. Document 01, "Numbers of an answer". Assumes nothing.
pub mod Tests
pub mod Table
pub mod Facts
pub mod When
