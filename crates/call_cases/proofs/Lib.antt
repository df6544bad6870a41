-- Closed calls: what the checker computes from the definition of a call is the oracle's answer. Assumes nothing.
pub mod ThreeRounds
pub mod Floored
pub mod Overflow
pub mod Inverse
pub mod OneEffect
pub mod TwoEffects
pub mod Joint
pub mod NoStop
pub mod GammaRounds
pub mod ProbitTrials
