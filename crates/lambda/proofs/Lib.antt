-- Laws of Λ. Every contract is one equation with a definition, so base's `one_value` leaves one answer and one content. Assumes nothing.
pub mod ColumnPlaces
pub mod Entries
pub mod Examples
