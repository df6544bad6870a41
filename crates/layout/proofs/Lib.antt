-- Laws of the layout. Every contract is one equation of the place with a definition (with a bound beside it where it is private), so base's `one_value` leaves one answer. Assumes nothing.
pub mod Bounds
pub mod LaidOut
pub mod Inside
