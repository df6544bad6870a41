-- The means of logit, probit and cloglog lie between E and 1 - E for every eta but NaN, and reach both ends. Document 01, module 3, and document 02, P8. Assumes nothing.
use mathlib.Core.Path.{◌≡◌, refl, ap}
use mathlib.Core.Bool.{true, false}
use lib.Ieee.{Float, nan, inf, neg, add, sub, div, lt, eq, le, is_nan, of_bits}
use Rattle.base.specs.Number.{◌⊖◌, one_f, eps_f, clamp_f}
use Rattle.base.proofs.NumberFacts.{clamp_from, clamp_to}
use Rattle.elementary.specs.Exp.{exp_of}
use Rattle.elementary.specs.Expm1.{expm1_of}
use Rattle.elementary.proofs.ExpFacts.{exp_nan, exp_inf, exp_minus_inf, exp_nan_only}
use Rattle.elementary.proofs.Expm1Facts.{nan_only, at_nan, at_minus_zero, at_minus_infinity}
use Rattle.normal.specs.Normal.{norm_cdf}
use Rattle.normal.proofs.NormalFacts.{cdf_nan, cdf_nan_only, cdf_low, cdf_high}
use Rattle.family.specs.Link.{clamp_e, logistic, link_inv}
use Rattle.family.specs.declared.carried.CarriedLink.TheVariants.{Logit, Probit, Cloglog}
use Rattle.base.proofs.Rounded.{neg_number, one_plus_number, one_over_number, number_of}

-- from E to 1 - E
pub record InsideE (p : Float) : Type 0 where
  pub from : le eps_f p ≡ true
  pub to : le p (one_f ⊖ eps_f) ≡ true

-- what is clamped lies there, but for a NaN
pub clamped_inside : (p : Float) → is_nan p ≡ false → InsideE (clamp_e p)
unfolding clamp_e is_nan le lt eq sub add neg of_bits
clamped_inside p h =
    record { from = clamp_from eps_f (one_f ⊖ eps_f) p refl refl h refl; to = clamp_to eps_f (one_f ⊖ eps_f) p refl refl h refl }

exp_number : (x : Float) → is_nan x ≡ false → is_nan (exp_of x) ≡ false
exp_number x h = number_of exp_of exp_nan_only x h

logistic_number : (e : Float) → is_nan e ≡ false → is_nan (logistic e) ≡ false
unfolding logistic
logistic_number e h = one_over_number _ (one_plus_number _ (exp_number (neg e) (neg_number e h)))

expm1_number : (x : Float) → is_nan x ≡ false → is_nan (expm1_of x) ≡ false
unfolding is_nan
expm1_number x h = number_of expm1_of (λ y e. nan_only y (ap is_nan e)) x h

pub logit_mean_inside : (eta : Float) → is_nan eta ≡ false → InsideE (link_inv Logit eta)
unfolding link_inv
logit_mean_inside eta h = clamped_inside (logistic eta) (logistic_number eta h)

pub probit_mean_inside : (eta : Float) → is_nan eta ≡ false → InsideE (link_inv Probit eta)
unfolding link_inv
probit_mean_inside eta h = clamped_inside (norm_cdf eta) (number_of norm_cdf cdf_nan_only eta h)

pub cloglog_mean_inside : (eta : Float) → is_nan eta ≡ false → InsideE (link_inv Cloglog eta)
unfolding link_inv
cloglog_mean_inside eta h = clamped_inside _ (neg_number _ (expm1_number _ (neg_number _ (exp_number eta h))))

-- ---- of a NaN the mean is NaN
pub logit_mean_of_nan : link_inv Logit nan ≡ nan
unfolding link_inv logistic clamp_e clamp_f lt sub add div neg of_bits
logit_mean_of_nan = rw exp_nan

pub probit_mean_of_nan : link_inv Probit nan ≡ nan
unfolding link_inv clamp_e clamp_f lt sub add neg of_bits
probit_mean_of_nan = rw cdf_nan

pub cloglog_mean_of_nan : link_inv Cloglog nan ≡ nan
unfolding link_inv clamp_e clamp_f lt sub add neg of_bits
cloglog_mean_of_nan = rw (exp_nan, at_nan)

-- ---- both ends are reached, at the infinities
pub logit_mean_ends : (link_inv Logit (inf true) ≡ eps_f) × (link_inv Logit (inf false) ≡ one_f ⊖ eps_f)
unfolding link_inv logistic clamp_e clamp_f lt sub add div neg of_bits
logit_mean_ends = (rw exp_inf, rw exp_minus_inf)

pub probit_mean_ends : (link_inv Probit (inf true) ≡ eps_f) × (link_inv Probit (inf false) ≡ one_f ⊖ eps_f)
unfolding link_inv clamp_e clamp_f le lt eq sub add neg of_bits
probit_mean_ends = (rw (cdf_low (inf true) refl), rw (cdf_high (inf false) refl))

pub cloglog_mean_ends : (link_inv Cloglog (inf true) ≡ eps_f) × (link_inv Cloglog (inf false) ≡ one_f ⊖ eps_f)
unfolding link_inv clamp_e clamp_f lt sub add neg of_bits
cloglog_mean_ends = (rw (exp_minus_inf, at_minus_zero), rw (exp_inf, at_minus_infinity))
