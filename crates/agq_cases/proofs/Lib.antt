-- Closed inner fits with quadrature: what the checker computes from the written rule is the oracle's answer. Assumes nothing.
pub mod OneEffect
pub mod TwoEffects
pub mod Joint
pub mod NoWish
pub mod ManyEffects
pub mod AboveTheCap
pub mod BadSum
pub mod NoInverse
pub mod NoFactor
pub mod NoStop
pub mod OneSquare
pub mod Squares
pub mod Sigma
pub mod JointSum
