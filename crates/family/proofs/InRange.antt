-- The range of each family's responses: what it is, that the deviance of a response in it is the family's formula, and of one outside a NaN. Document 02, P6. Assumes nothing.
use mathlib.Core.Path.{◌≡◌, refl, sym, ◌∙◌}
use mathlib.Core.Logic.{◌↔◌}
use mathlib.Core.Bool.{Bool, true, false}
use lib.Ieee.{Float, nan, is_nan, lt, le, eq, of_bits}
use Rattle.base.specs.Number.{◌⊗◌, bits, zero_f, one_f, two_f, eps_f, max_f}
use Rattle.base.proofs.Doubles.{ff, is_nan_lem, at_most}
use Rattle.base.proofs.Order.{below_not_from}
use Rattle.model.proofs.Tests.{both, joined}
use Rattle.family.specs.Link.{clamp_e}
use Rattle.family.specs.Family.{proportion, binomial_term, poisson_term, gamma_term, in_range, dev_resid}
use Rattle.family.specs.declared.carried.CarriedFamily.TheVariants.{Binomial, Poisson, Gaussian, Gamma}
use Rattle.family.proofs.OutOfRange.{not_a_proportion, poisson_below_zero, poisson_of_nan, gamma_not_above_zero}

-- ---- what the ranges are
pub binomial_range : (y : Float) → (in_range Binomial y ≡ true) ↔ ((le zero_f y ≡ true) × (le y one_f ≡ true))
unfolding in_range proportion
binomial_range y = (both, λ h. joined h.0 h.1)

pub poisson_range : (y : Float) → in_range Poisson y ≡ le zero_f y
unfolding in_range
poisson_range y = refl

pub gaussian_range : (y : Float) → in_range Gaussian y ≡ true
unfolding in_range
gaussian_range y = refl

pub gamma_range : (y : Float) → in_range Gamma y ≡ lt zero_f y
unfolding in_range
gamma_range y = refl

-- both ends are in the range, with either sign of zero, and their neighbours outside are not
pub binomial_ends : (in_range Binomial zero_f ≡ true) × (in_range Binomial (bits 0x8000_0000_0000_0000) ≡ true) × (in_range Binomial one_f ≡ true) × (in_range Binomial (bits 0x8000_0000_0000_0001) ≡ false) × (in_range Binomial (bits 0x3ff0_0000_0000_0001) ≡ false)
unfolding in_range proportion le lt eq of_bits
binomial_ends = (refl, refl, refl, refl, refl)

pub poisson_ends : (in_range Poisson zero_f ≡ true) × (in_range Poisson (bits 0x8000_0000_0000_0000) ≡ true) × (in_range Poisson (bits 0x8000_0000_0000_0001) ≡ false)
unfolding in_range le lt eq of_bits
poisson_ends = (refl, refl, refl)

-- neither zero is above 0, the least double is
pub gamma_ends : (in_range Gamma zero_f ≡ false) × (in_range Gamma (bits 0x8000_0000_0000_0000) ≡ false) × (in_range Gamma (bits 0x0000_0000_0000_0001) ≡ true)
unfolding in_range lt of_bits
gamma_ends = (refl, refl, refl)

-- ---- in the range the deviance is the formula
pub binomial_formula : (y mu w : Float) → in_range Binomial y ≡ true → dev_resid Binomial y mu w ≡ two_f ⊗ w ⊗ binomial_term y (clamp_e mu)
unfolding in_range dev_resid
binomial_formula y mu w h = rw h refl

-- what is from 0 on is not below 0
from_zero : (y : Float) (b : Bool) → lt y zero_f ≡ b → le zero_f y ≡ true → lt y zero_f ≡ false
from_zero y true e h = absurd (ff (sym (below_not_from y zero_f e) ∙ h))
from_zero y false e h = e

pub poisson_formula : (y mu w : Float) → in_range Poisson y ≡ true → dev_resid Poisson y mu w ≡ two_f ⊗ w ⊗ poisson_term y (max_f mu eps_f)
unfolding in_range dev_resid
poisson_formula y mu w h = rw (from_zero y (lt y zero_f) refl h) refl

pub gamma_formula : (y mu w : Float) → in_range Gamma y ≡ true → dev_resid Gamma y mu w ≡ two_f ⊗ w ⊗ gamma_term (max_f y eps_f) (max_f mu eps_f)
unfolding in_range dev_resid
gamma_formula y mu w h = rw (below_not_from zero_f y h) refl

-- ---- outside it is a NaN
pub binomial_outside : (y mu w : Float) → in_range Binomial y ≡ false → dev_resid Binomial y mu w ≡ nan
unfolding in_range
binomial_outside y mu w h = not_a_proportion y mu w h

pub poisson_outside : (y mu w : Float) → in_range Poisson y ≡ false → dev_resid Poisson y mu w ≡ nan
unfolding in_range is_nan of_bits
poisson_outside y mu w h = by (is_nan y) (lt y zero_f) refl refl
  where
    by : (a b : Bool) → is_nan y ≡ a → lt y zero_f ≡ b → dev_resid Poisson y mu w ≡ nan
    by true b n e = rw (← is_nan_lem y n) (poisson_of_nan mu w)
    by false true n e = poisson_below_zero y mu w e
    by false false n e = absurd (ff (sym h ∙ at_most y zero_f n refl e))

-- of Gamma, where it is no NaN already: of that the formula makes a number (`gamma_of_nan`)
pub gamma_outside : (y mu w : Float) → is_nan y ≡ false → in_range Gamma y ≡ false → dev_resid Gamma y mu w ≡ nan
unfolding in_range is_nan of_bits
gamma_outside y mu w n h = gamma_not_above_zero y mu w (at_most zero_f y refl n h)
