-- The test of two phi at its edge: closed cases, computed by the checker. Assumes nothing.
use mathlib.Core.Path.{◌≡◌, refl}
use mathlib.Core.Bool.{true, false}
use lib.Ieee.{of_bits, sub, div, lt, is_nan}
use Rattle.base.specs.Number.{bits, zero_f, one_f, abs_f, max_f}
use Rattle.dispersion.specs.Phi.{close}

-- |phi' - phi| / phi is the double 1e-8, which is not below itself: a test with <=, and a tolerance one bit more, would settle here
pub at_tolerance : close (bits 0x3ff0_05d2_33ef_e000) (bits 0x3ff0_05d2_36a0_0be0) ≡ false
unfolding close abs_f max_f of_bits sub div lt
at_tolerance = refl

-- each one bit on, it is the double before 1e-8: a tolerance one bit less would go on
pub below_tolerance : close (bits 0x3ff0_05d2_33ef_e001) (bits 0x3ff0_05d2_36a0_0be1) ≡ true
unfolding close abs_f max_f of_bits sub div lt
below_tolerance = refl

-- phi 1, phi' 0.9999999900000001: the difference is below 1e-8 of phi, and above 1e-8 of phi'; divided by phi' it would go on
pub divided_by_old : close one_f (bits 0x3fef_ffff_faa1_9c48) ≡ true
unfolding close abs_f max_f of_bits sub div lt
divided_by_old = refl

-- a phi below E is taken as E: phi' is then 1e-8·E away from 0, which is not below 1e-8
pub floored : close zero_f (bits 0x3b05_798e_e230_8c3a) ≡ false
unfolding close abs_f max_f is_nan of_bits sub div lt
floored = refl
