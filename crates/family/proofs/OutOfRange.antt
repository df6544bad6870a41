-- A response outside its family's range has the deviance NaN: binomial outside 0 to 1 or NaN, Poisson below 0, Gamma at or below 0; of a NaN response Gamma makes a number. Where the log density is -infinity. Document 01, module 3, and document 02, P2. Assumes nothing.
use mathlib.Core.Path.{◌≡◌, refl}
use mathlib.Core.Bool.{Bool, true, false, ◌&&◌}
use lib.Ieee.{Float, nan, inf, neg, add, sub, lt, eq, le, is_nan, of_bits}
use Rattle.base.specs.Number.{◌⊗◌, zero_f, one_f, two_f, eps_f, max_f}
use Rattle.base.specs.Sum.{add_where}
use Rattle.family.specs.Family.{proportion, poisson_term, dev_resid, has_density, ln_dgamma}
use Rattle.family.specs.declared.carried.CarriedFamily.TheVariants.{Binomial, Poisson, Gamma}
use Rattle.base.proofs.Doubles.{times_nan}
use Rattle.base.proofs.Order.{below_not_from}

pub not_a_proportion : (y mu w : Float) → proportion y ≡ false → dev_resid Binomial y mu w ≡ nan
unfolding dev_resid
not_a_proportion y mu w h = rw h

and_false : (b : Bool) → b && false ≡ false
and_false true = refl
and_false false = refl

pub binomial_below_zero : (y mu w : Float) → lt y zero_f ≡ true → dev_resid Binomial y mu w ≡ nan
unfolding proportion
binomial_below_zero y mu w h = not_a_proportion y mu w (rw (below_not_from y zero_f h))

pub binomial_above_one : (y mu w : Float) → lt one_f y ≡ true → dev_resid Binomial y mu w ≡ nan
unfolding proportion
binomial_above_one y mu w h = not_a_proportion y mu w (rw (below_not_from one_f y h) (and_false (le zero_f y)))

pub binomial_of_nan : (mu w : Float) → dev_resid Binomial nan mu w ≡ nan
unfolding proportion le lt eq of_bits
binomial_of_nan mu w = not_a_proportion nan mu w refl

pub poisson_below_zero : (y mu w : Float) → lt y zero_f ≡ true → dev_resid Poisson y mu w ≡ nan
unfolding dev_resid
poisson_below_zero y mu w h = rw h

-- of a NaN too, though it is not below 0: the formula keeps it
pub poisson_of_nan : (mu w : Float) → dev_resid Poisson nan mu w ≡ nan
unfolding dev_resid poisson_term add_where lt sub add neg of_bits
poisson_of_nan mu w = times_nan (two_f ⊗ w)

pub gamma_not_above_zero : (y mu w : Float) → le y zero_f ≡ true → dev_resid Gamma y mu w ≡ nan
unfolding dev_resid
gamma_not_above_zero y mu w h = rw h

-- a NaN passes the test, and `max` drops it: the response counts as E
pub gamma_of_nan : (mu w : Float) → dev_resid Gamma nan mu w ≡ dev_resid Gamma eps_f mu w
unfolding dev_resid max_f le lt eq is_nan of_bits
gamma_of_nan mu w = refl

-- and so does a NaN mean
pub gamma_of_nan_mean : (y w : Float) → dev_resid Gamma y nan w ≡ dev_resid Gamma y eps_f w
unfolding dev_resid max_f lt is_nan of_bits
gamma_of_nan_mean y w = refl

-- ---- the log density is -infinity unless response, shape and scale are above zero, which no NaN is
no_density : (y shape scale : Float) → has_density y shape scale ≡ false → ln_dgamma y shape scale ≡ inf true
unfolding ln_dgamma
no_density y shape scale h = rw h

pub density_of_response : (y shape scale : Float) → lt zero_f y ≡ false → ln_dgamma y shape scale ≡ inf true
unfolding has_density
density_of_response y shape scale h = no_density y shape scale (rw h)

pub density_of_shape : (y shape scale : Float) → lt zero_f shape ≡ false → ln_dgamma y shape scale ≡ inf true
unfolding has_density
density_of_shape y shape scale h = no_density y shape scale (rw (h, and_false (lt zero_f y)))

pub density_of_scale : (y shape scale : Float) → lt zero_f scale ≡ false → ln_dgamma y shape scale ≡ inf true
unfolding has_density
density_of_scale y shape scale h = no_density y shape scale (rw h (and_false (lt zero_f y && lt zero_f shape)))
