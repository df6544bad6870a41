-- What documents 01 and 02 fix of the AIC: where those of Gaussian and Gamma are +infinity, which weights add a logarithm, what absent weights count, and the others' value. Assumes nothing.
use Rattle.family_lists.specs.declared.lists.ListError.TheVariants.{LengthsDiffer}
use Rattle.std.specs.Prelude.{Ok, Err}
use Rattle.std.proofs.Common.{◌≡◌, ℕ, zero, suc, ◌<◌, ◌≤◌, Bool, true, false, cond, not, ◌||◌, eqb, List, [], length, replicate, sym, refl, ap, arith}
use lib.ListN.{length-replicate, get_or-replicate}
use lib.Ieee.{Float, nan, inf, fin, add, lt, le, eq, is_nan, of_bits}
use Rattle.base.specs.Number.{◌⊘◌, zero_f, one_f, eps_f, finite, max_f}
use Rattle.base.specs.Sum.{◌!◌, sum_to, add_where, sum_where}
use Rattle.base.proofs.Doubles.{at_most}
use Rattle.base.proofs.Sums.{sum_cong, where_cong, where_gap}
use Rattle.elementary.specs.Log.{ln_of}
use Rattle.elementary.proofs.LogFacts.{ln_one}
use Rattle.family_lists.specs.Aic.{above_zero_at, ln_at, log_weights, gaussian_term, gaussian_aic, density_at, density_term, gamma_aic, aic_of, aic_answer, aic_number}
use Rattle.family_lists.specs.Lists.{weight_at, weight_sum, lengths_agree}
use Rattle.family.specs.declared.carried.CarriedFamily.{CarriedFamily}
use Rattle.family.specs.declared.carried.CarriedFamily.TheVariants.{Binomial, Poisson, Gaussian, Gamma}

-- ---- binomial and Poisson: the deviance itself
pub binomial_aic : (y mu w : List Float) (dev : Float) → aic_of Binomial y mu w dev ≡ dev
unfolding aic_of
binomial_aic y mu w dev = refl

pub poisson_aic : (y mu w : List Float) (dev : Float) → aic_of Poisson y mu w dev ≡ dev
unfolding aic_of
poisson_aic y mu w dev = refl

-- ---- Gaussian: +infinity without responses
pub no_responses : (mu w : List Float) (dev : Float) → aic_of Gaussian [] mu w dev ≡ inf false
unfolding aic_of gaussian_aic
no_responses mu w dev = refl

-- where the deviance sum is not finite
pub not_finite : (y mu w : List Float) (dev : Float) → finite dev ≡ false → aic_of Gaussian y mu w dev ≡ inf false
unfolding aic_of gaussian_aic
not_finite y mu w dev h = rw h (picked (eqb (length y) 0))
  where
    picked : (b : Bool) → cond (b || true || le dev zero_f) (inf false) (gaussian_term (length y) w dev) ≡ inf false
    picked true = refl
    picked false = refl

-- and where it is not above zero
at_most_zero : (y mu w : List Float) (dev : Float) → le dev zero_f ≡ true → aic_of Gaussian y mu w dev ≡ inf false
unfolding aic_of gaussian_aic
at_most_zero y mu w dev h = rw h (picked (eqb (length y) 0 || not (finite dev)))
  where
    picked : (b : Bool) → cond (b || true) (inf false) (gaussian_term (length y) w dev) ≡ inf false
    picked true = refl
    picked false = refl

pub not_above_zero : (y mu w : List Float) (dev : Float) → lt zero_f dev ≡ false → aic_of Gaussian y mu w dev ≡ inf false
unfolding finite is_nan of_bits
not_above_zero y mu w nan h = not_finite y mu w nan refl
not_above_zero y mu w (inf s) h = not_finite y mu w (inf s) refl
not_above_zero y mu w (fin s m e) h = at_most_zero y mu w (fin s m e) (at_most zero_f (fin s m e) refl refl h)

-- else the formula
pub gaussian_aic_lem : (y mu w : List Float) (dev : Float) → eqb (length y) 0 ≡ false → finite dev ≡ true → le dev zero_f ≡ false → aic_of Gaussian y mu w dev ≡ gaussian_term (length y) w dev
unfolding aic_of gaussian_aic
gaussian_aic_lem y mu w dev n f l = rw (n, f, l)

-- ---- weights not above zero add no logarithm: whatever they are, the sum is the same
pub no_logarithm : (w v : List Float) → length w ≡ length v → ((i : ℕ) → i < length w → above_zero_at w i ≡ above_zero_at v i)
    → ((i : ℕ) → i < length w → above_zero_at w i ≡ true → w ! i ≡ v ! i) → log_weights w ≡ log_weights v
unfolding log_weights
no_logarithm w v n t e = rw (← n) (where_cong (length w) (above_zero_at w) (above_zero_at v) (ln_at w) (ln_at v) t (λ i l p. ap ln_of (e i l p)))

pub none_above_zero : (w : List Float) → ((i : ℕ) → i < length w → above_zero_at w i ≡ false) → log_weights w ≡ zero_f
unfolding log_weights sum_where
none_above_zero w h = sym (where_gap (above_zero_at w) (ln_at w) 0 (length w) (omega arith) (λ i p l. h i l))

-- absent weights, an empty list, add what as many ones would: nothing
ones_to : (n k : ℕ) → k ≤ n → sum_where k (above_zero_at (replicate n one_f)) (ln_at (replicate n one_f)) ≡ zero_f
unfolding sum_where add_where add lt of_bits
ones_to n zero l = refl
ones_to n (suc k) l = rw (get_or-replicate n k one_f nan l, ones_to n k (omega arith), ln_one)

pub absent_weights : (n : ℕ) → log_weights (replicate n one_f) ≡ log_weights []
unfolding log_weights sum_where
absent_weights n = rw length-replicate (ones_to n n (omega arith))

-- ---- Gamma: +infinity where the weights' sum is not above zero, as it is without responses
pub gamma_no_weight : (y mu w : List Float) (dev : Float) → le (weight_sum (length y) w) zero_f ≡ true → aic_of Gamma y mu w dev ≡ inf false
unfolding aic_of gamma_aic
gamma_no_weight y mu w dev h = rw h

pub gamma_no_responses : (mu w : List Float) (dev : Float) → aic_of Gamma [] mu w dev ≡ inf false
unfolding weight_sum sum_to le lt eq of_bits
gamma_no_responses mu w dev = gamma_no_weight [] mu w dev refl

-- where the deviance sum is not finite, as it is with a response at or below zero
pub gamma_not_finite : (y mu w : List Float) (dev : Float) → finite dev ≡ false → aic_of Gamma y mu w dev ≡ inf false
unfolding aic_of gamma_aic
gamma_not_finite y mu w dev h = rw h (either_true (le (weight_sum (length y) w) zero_f) (le dev zero_f) _)
  where
    either_true : (b c : Bool) (x : Float) → cond (b || true || c) (inf false) x ≡ inf false
    either_true true c x = refl
    either_true false c x = refl

-- and where it is not above zero
gamma_at_most_zero : (y mu w : List Float) (dev : Float) → le dev zero_f ≡ true → aic_of Gamma y mu w dev ≡ inf false
unfolding aic_of gamma_aic
gamma_at_most_zero y mu w dev h = rw h (last_true (le (weight_sum (length y) w) zero_f || not (finite dev)) _)
  where
    last_true : (b : Bool) (x : Float) → cond (b || true) (inf false) x ≡ inf false
    last_true true x = refl
    last_true false x = refl

pub gamma_not_above_zero : (y mu w : List Float) (dev : Float) → lt zero_f dev ≡ false → aic_of Gamma y mu w dev ≡ inf false
unfolding finite is_nan of_bits
gamma_not_above_zero y mu w nan h = gamma_not_finite y mu w nan refl
gamma_not_above_zero y mu w (inf s) h = gamma_not_finite y mu w (inf s) refl
gamma_not_above_zero y mu w (fin s m e) h = gamma_at_most_zero y mu w (fin s m e) (at_most zero_f (fin s m e) refl refl h)

-- else the formula
pub gamma_aic_lem : (y mu w : List Float) (dev : Float) → le (weight_sum (length y) w) zero_f ≡ false → finite dev ≡ true → le dev zero_f ≡ false
    → aic_of Gamma y mu w dev ≡ density_term y mu w (max_f (dev ⊘ weight_sum (length y) w) eps_f)
unfolding aic_of gamma_aic
gamma_aic_lem y mu w dev n f l = rw (n, f, l)

-- ---- absent weights, an empty list, count as ones
one_of_ones : (n i : ℕ) → i < n → weight_at (replicate n one_f) i ≡ weight_at [] i
one_of_ones n i l = get_or-replicate n i one_f one_f l

pub absent_sum : (n : ℕ) → weight_sum n (replicate n one_f) ≡ weight_sum n []
unfolding weight_sum
absent_sum n = sum_cong n (weight_at (replicate n one_f)) (weight_at []) (one_of_ones n)

pub gamma_absent : (y mu : List Float) (dev : Float) → aic_of Gamma y mu (replicate (length y) one_f) dev ≡ aic_of Gamma y mu [] dev
unfolding aic_of gamma_aic density_term density_at
gamma_absent y mu dev = rw (absent_sum (length y), densities (max_f (dev ⊘ weight_sum (length y) []) eps_f))
  where
    densities : (phi : Float) → sum_to (length y) (density_at y mu (replicate (length y) one_f) phi) ≡ sum_to (length y) (density_at y mu [] phi)
    densities phi = sum_cong (length y) (density_at y mu (replicate (length y) one_f) phi) (density_at y mu [] phi) (λ i l. rw (one_of_ones (length y) i l) refl)

-- ---- the number of the list function: 2 where the lengths do not agree
pub aic_number_lem : (f : CarriedFamily) (y mu w : List Float) (dev : Float)
    → aic_number (aic_answer f y mu w dev) ≡ cond (lengths_agree (length y) (length mu) (length w)) 0 2
unfolding aic_answer
aic_number_lem f y mu w dev = picked (lengths_agree (length y) (length mu) (length w))
  where
    picked : (b : Bool) → aic_number (cond b (Ok (aic_of f y mu w dev)) (Err LengthsDiffer)) ≡ cond b 0 2
    picked true = refl
    picked false = refl
