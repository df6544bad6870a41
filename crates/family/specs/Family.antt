-- The families that are carried: variance, deviance of one response, starting mean, and the logarithm of Gamma's density. Document 01, module 3, and document 02, P2 and P10; `GlmFamily` and `ln_dgamma` of family.rs. Assumes nothing.
use Rattle.std.specs.Prelude.{Bool, true, false, ◌&&◌, cond, Float}
use Rattle.std.specs.Float.{nan, inf}
use Rattle.std.specs.Float.Ieee.{lt, le, neg}
use Rattle.base.specs.Number.{◌⊕◌, ◌⊖◌, ◌⊗◌, ◌⊘◌, bits, zero_f, one_f, half_f, two_f, eps_f, max_f}
use Rattle.base.specs.Sum.{add_where}
use Rattle.elementary.specs.Log.{ln_of}
use Rattle.log_gamma.specs.LogGamma.{ln_gamma_of}
use Rattle.family.specs.Link.{clamp_e}
use Rattle.family.specs.declared.carried.CarriedFamily.{CarriedFamily}
use Rattle.family.specs.declared.carried.CarriedFamily.TheVariants.{Binomial, Poisson, Gaussian, Gamma}

-- `variance`: that of a response with this mean, the dispersion aside
unfoldable pub variance_of : CarriedFamily → Float → Float
variance_of Binomial mu = let m = clamp_e mu in m ⊗ (one_f ⊖ m)
variance_of Poisson mu = max_f mu eps_f
variance_of Gaussian mu = one_f
variance_of Gamma mu = let m = max_f mu eps_f in m ⊗ m

-- from +0.0, y ln (y / m) added where y > 0
unfoldable pub success_term : Float → Float → Float
success_term y m = add_where (lt zero_f y) zero_f (y ⊗ ln_of (y ⊘ m))

-- and then (1 - y) ln ((1 - y) / (1 - m)) added where y < 1
unfoldable pub binomial_term : Float → Float → Float
binomial_term y m = add_where (lt y one_f) (success_term y m) ((one_f ⊖ y) ⊗ ln_of ((one_f ⊖ y) ⊘ (one_f ⊖ m)))

-- -(y - m), and y ln (y / m) added where y > 0
unfoldable pub poisson_term : Float → Float → Float
poisson_term y m = add_where (lt zero_f y) (neg (y ⊖ m)) (y ⊗ ln_of (y ⊘ m))

-- -ln (y / m) + (y - m) / m: the minus is the logarithm's
unfoldable pub gamma_term : Float → Float → Float
gamma_term y m = neg (ln_of (y ⊘ m)) ⊕ (y ⊖ m) ⊘ m

-- `(0.0..=1.0).contains(&y)`
unfoldable pub proportion : Float → Bool
proportion y = le zero_f y && le y one_f

-- the responses that a family is for: proportions, counts from 0 on, every number, what is above 0. Document 02, P6; the comparisons are the doubles', so -0.0 counts as 0
unfoldable pub in_range : CarriedFamily → Float → Bool
in_range Binomial y = proportion y
in_range Poisson y = le zero_f y
in_range Gaussian y = true
in_range Gamma y = lt zero_f y

-- `dev_resid`: what a response y with mean mu and weight w adds to the deviance; NaN outside the family's range, but of a NaN response Gamma makes a number, as `max` drops it
unfoldable pub dev_resid : CarriedFamily → Float → Float → Float → Float
dev_resid Binomial y mu w = cond (proportion y) (two_f ⊗ w ⊗ binomial_term y (clamp_e mu)) nan
dev_resid Poisson y mu w = cond (lt y zero_f) nan (two_f ⊗ w ⊗ poisson_term y (max_f mu eps_f))
dev_resid Gaussian y mu w = let d = y ⊖ mu in w ⊗ (d ⊗ d)
dev_resid Gamma y mu w = cond (le y zero_f) nan (two_f ⊗ w ⊗ gamma_term (max_f y eps_f) (max_f mu eps_f))

-- 0.1
abbrev pub tenth_f : Float
tenth_f = bits 0x3fb9_9999_9999_999a

-- `initialize_mu`: the mean that a fit starts from
unfoldable pub initialize_mu : CarriedFamily → Float → Float
initialize_mu Binomial y = (y ⊕ half_f) ⊘ two_f
initialize_mu Poisson y = y ⊕ tenth_f
initialize_mu Gaussian y = y
initialize_mu Gamma y = max_f y eps_f

-- (w y + 0.5) / (w + 1), R's binomial start with the weight w as the number of trials. Document 02, P10
unfoldable pub trials_mean : Float → Float → Float
trials_mean w y = (w ⊗ y ⊕ half_f) ⊘ (w ⊕ one_f)

-- `uses_dispersion`
abbrev pub uses_dispersion : CarriedFamily → Bool
uses_dispersion Binomial = false
uses_dispersion Poisson = false
uses_dispersion Gaussian = true
uses_dispersion Gamma = true

-- a response, a shape and a scale above zero
unfoldable pub has_density : Float → Float → Float → Bool
has_density y shape scale = lt zero_f y && lt zero_f shape && lt zero_f scale

-- `ln_dgamma`: the logarithm of Gamma's density at y, with a shape and a scale; -infinity unless all three are above zero
unfoldable pub ln_dgamma : Float → Float → Float → Float
ln_dgamma y shape scale =
    cond (has_density y shape scale) (neg (ln_gamma_of shape) ⊖ shape ⊗ ln_of scale ⊕ (shape ⊖ one_f) ⊗ ln_of y ⊖ y ⊘ scale) (inf true)
