-- Laws of the quadrature over the work slices. Assumes nothing.
pub mod Gains
pub mod Ruled
pub mod Ones
pub mod OneTurns
pub mod OneRuled
