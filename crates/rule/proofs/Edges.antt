-- The stop test at its edge, and the PWRSS that a run begins with: closed cases, computed by the checker. Assumes nothing.
use mathlib.Core.Path.{◌≡◌, refl}
use mathlib.Core.Bool.{true, false}
use mathlib.Core.List.{List}
use lib.Ieee.{Float, of_bits, add, sub, div, lt}
use Rattle.base.specs.Number.{bits, zero_f, huge_f, abs_f}
use Rattle.rule.specs.Given.{Given}
use Rattle.rule.specs.Stop.{stops}
use Rattle.rule.specs.Run.{start_at}

-- |1e-9 - 0| / (0 + 0.1) is the double 1e-8, which is not below itself: a test with <=, and a tolerance one bit more, would stop here
pub at_tolerance : stops (bits 0x3e11_2e0b_e826_d695) zero_f ≡ false
unfolding stops abs_f of_bits add sub div lt
at_tolerance = refl

-- the double before 1e-9 gives the double before 1e-8: a tolerance one bit less would go on
pub below_tolerance : stops (bits 0x3e11_2e0b_e826_d694) zero_f ≡ true
unfolding stops abs_f of_bits add sub div lt
below_tolerance = refl

-- a run begins with `f64::MAX`: a first PWRSS of that size stops it, where from infinity it would go on
pub starts_from_max : (G : Given) (mu : List Float) → stops (start_at G mu).old huge_f ≡ true
unfolding start_at stops abs_f of_bits add sub div lt
starts_from_max G mu = refl
