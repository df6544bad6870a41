-- exp, ln, exp_m1 and ln_1p as ordered operations. Assumes nothing.
pub mod Exp
pub mod LogPoly
pub mod Log
pub mod Parts
pub mod Expm1
pub mod Log1p
