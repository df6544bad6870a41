-- The families' AIC over lists. Document 01, module 3, and document 02, P2; `aic` of family.rs. Assumes nothing.
use Rattle.family_lists.specs.declared.lists.ListError.{ListError}
use Rattle.family_lists.specs.declared.lists.ListError.TheVariants.{LengthsDiffer}
use Rattle.std.specs.Prelude.{Result, Ok, Err}
use Rattle.std.specs.Prelude.{ℕ, Bool, false, cond, not, ◌||◌, List, length, ◌==◌, Float}
use Rattle.std.specs.Float.{inf}
use Rattle.std.specs.Float.Ieee.{lt, le, neg}
use Rattle.base.specs.Number.{◌⊕◌, ◌⊖◌, ◌⊗◌, ◌⊘◌, bits, zero_f, one_f, two_f, eps_f, number_of, finite, max_f}
use Rattle.base.specs.Sum.{◌!◌, sum_to, sum_where}
use Rattle.elementary.specs.Log.{ln_of}
use Rattle.family.specs.Family.{ln_dgamma}
use Rattle.family.specs.declared.carried.CarriedFamily.{CarriedFamily}
use Rattle.family.specs.declared.carried.CarriedFamily.TheVariants.{Binomial, Poisson, Gaussian, Gamma}
use Rattle.family_lists.specs.Lists.{weight_at, weight_sum, lengths_agree}

-- π
abbrev pub pi_f : Float
pi_f = bits 0x4009_21fb_5444_2d18

-- weight i is above zero
abbrev pub above_zero_at : List Float → ℕ → Bool
above_zero_at w i = lt zero_f (w ! i)

-- the logarithm of weight i
abbrev pub ln_at : List Float → ℕ → Float
ln_at w i = ln_of (w ! i)

-- the sum of the logarithms of the weights that are above zero
unfoldable pub log_weights : List Float → Float
log_weights w = sum_where (length w) (above_zero_at w) (ln_at w)

-- n (ln (2π dev / n) + 1) + 2 less the logarithms of the weights
unfoldable pub gaussian_term : ℕ → List Float → Float → Float
gaussian_term n w dev =
    let c = number_of n in
    c ⊗ (ln_of (two_f ⊗ pi_f ⊗ dev ⊘ c) ⊕ one_f) ⊕ two_f ⊖ log_weights w

-- +infinity without responses, and where the deviance sum is not above zero or not finite
unfoldable pub gaussian_aic : ℕ → List Float → Float → Float
gaussian_aic n w dev = cond (n == 0 || not (finite dev) || le dev zero_f) (inf false) (gaussian_term n w dev)

-- response i's weight times its log density, where the dispersion is phi: the shape is 1 / phi, the scale the mean, at least E, times phi
unfoldable pub density_at : List Float → List Float → List Float → Float → ℕ → Float
density_at y mu w phi i = weight_at w i ⊗ ln_dgamma (y ! i) (one_f ⊘ phi) (max_f (mu ! i) eps_f ⊗ phi)

-- -2 times their sum, and 2
unfoldable pub density_term : List Float → List Float → List Float → Float → Float
density_term y mu w phi = neg two_f ⊗ sum_to (length y) (density_at y mu w phi) ⊕ two_f

-- the dispersion is the deviance sum over the sum n of the weights, at least E; +infinity where n is not above zero, and where the deviance sum is not above zero or not finite
unfoldable pub gamma_aic : List Float → List Float → List Float → Float → Float
gamma_aic y mu w dev =
    let n = weight_sum (length y) w in
    cond (le n zero_f || not (finite dev) || le dev zero_f) (inf false) (density_term y mu w (max_f (dev ⊘ n) eps_f))

-- `aic` of responses y with means mu, weights w and the deviance sum dev; that of binomial and Poisson is the deviance itself
unfoldable pub aic_of : CarriedFamily → List Float → List Float → List Float → Float → Float
aic_of Binomial y mu w dev = dev
aic_of Poisson y mu w dev = dev
aic_of Gaussian y mu w dev = gaussian_aic (length y) w dev
aic_of Gamma y mu w dev = gamma_aic y mu w dev

-- the list function `aic`
unfoldable pub aic_answer : CarriedFamily → List Float → List Float → List Float → Float → Result Float ListError
aic_answer f y mu w dev = cond (lengths_agree (length y) (length mu) (length w)) (Ok (aic_of f y mu w dev)) (Err LengthsDiffer)

-- document 01's number of each answer
abbrev pub aic_number : Result Float ListError → ℕ
aic_number (Ok x) = 0
aic_number (Err LengthsDiffer) = 2
