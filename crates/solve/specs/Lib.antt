-- What one solve of an iteration is given, and what its parts leave. Assumes nothing.
pub mod Ready
pub mod System
pub mod Root
pub mod Effects
