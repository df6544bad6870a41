-- Laws of the largest entry and of the log sum, and what document 01 says of it. Assumes nothing.
use mathlib.Core.Path.{◌≡◌, refl}
use mathlib.Core.List.{List, []}
use mathlib.Core.Logic.{⊎_elim, ◌⊎◌}
use mathlib.Core.Bool.{true, false}
use Prim.Native.Nat.{ℕ, zero, suc, ◌+◌, ◌<◌, ◌≤◌}
use native.Mathlib.Nat.{not-suc-le-zero}
use native.Mathlib.Numerals.{add-one}
use native.Mathlib.Omega.{arith}
use lib.ListN.{length}
use lib.Ieee.{Float, nan, inf, fin, neg, lt, is_nan, add, sub}
use Rattle.base.specs.Number.{◌⊕◌, finite, max_f}
use Rattle.base.specs.Sum.{◌!◌, sum_to}
use Rattle.base.proofs.Doubles.{nan_plus, plus_nan}
use Rattle.base.proofs.Sums.{last_or_before}
use Rattle.elementary.specs.Log.{ln_of}
use Rattle.elementary.proofs.ExpFacts.{exp_nan}
use Rattle.elementary.proofs.LogFacts.{ln_nan}
use Rattle.quadrature.specs.LogSum.{max_to, exp_term, log_sum_at, log_sum_exp}

-- ---- as a loop uses the largest
pub max_none : (xs : List Float) (m : Float) → m ≡ inf false → neg m ≡ max_to 0 xs
unfolding max_to neg
max_none xs m e = rw e refl

pub max_step : (xs : List Float) (k : ℕ) (m : Float) → m ≡ max_to k xs → max_f m (xs ! k) ≡ max_to (k + 1) xs
unfolding max_to
max_step xs k m e = rw (e, add-one) refl

pub max_end : (xs : List Float) (k n : ℕ) (m : Float) → m ≡ max_to k xs → k ≤ n → n ≤ k → m ≡ max_to n xs
max_end xs k n m e l g = let q : k ≡ n = omega arith in rw (← q) e

-- ---- an empty list
pub log_sum_empty : log_sum_exp [] ≡ inf true
unfolding log_sum_exp log_sum_at max_to finite
log_sum_empty = refl

-- ---- only NaN and -infinity
low_max : (m x : Float) → m ≡ inf true → (x ≡ nan) ⊎ (x ≡ inf true) → max_f m x ≡ inf true
unfolding max_f lt is_nan
low_max m x e h = ⊎_elim (λ (q : x ≡ nan). rw (e, q) refl) (λ (q : x ≡ inf true). rw (e, q) refl) h

max_low : (n : ℕ) (xs : List Float) → ((i : ℕ) → i < n → (xs ! i ≡ nan) ⊎ (xs ! i ≡ inf true)) → max_to n xs ≡ inf true
unfolding max_to
max_low zero xs h = refl
max_low (suc n) xs h = low_max (max_to n xs) (xs ! n) (max_low n xs (λ i l. h i (omega arith))) (h n (omega arith))

pub log_sum_low : (xs : List Float) → ((i : ℕ) → i < length xs → (xs ! i ≡ nan) ⊎ (xs ! i ≡ inf true)) → log_sum_exp xs ≡ inf true
unfolding log_sum_exp log_sum_at finite
log_sum_low xs h = rw (max_low (length xs) xs h) refl

-- ---- any +infinity
top_stays : (x : Float) → max_f (inf false) x ≡ inf false
unfolding max_f lt is_nan
top_stays nan = refl
top_stays (inf true) = refl
top_stays (inf false) = refl
top_stays (fin s m e) = refl

top_comes : (m : Float) → max_f m (inf false) ≡ inf false
unfolding max_f lt is_nan
top_comes nan = refl
top_comes (inf true) = refl
top_comes (inf false) = refl
top_comes (fin s m e) = refl

max_top : (n : ℕ) (xs : List Float) (k : ℕ) → k < n → xs ! k ≡ inf false → max_to n xs ≡ inf false
unfolding max_to
max_top zero xs k l h = absurd (not-suc-le-zero l)
max_top (suc n) xs k l h =
    ⊎_elim
    (λ (q : k ≡ n). let h' : xs ! n ≡ inf false = rw q at h in rw h' (top_comes (max_to n xs)))
    (λ (g : k < n). rw (max_top n xs k g h) (top_stays (xs ! n)))
    (last_or_before l)

pub log_sum_top : (xs : List Float) (k : ℕ) → k < length xs → xs ! k ≡ inf false → log_sum_exp xs ≡ inf true
unfolding log_sum_exp log_sum_at finite
log_sum_top xs k l h = rw (max_top (length xs) xs k l h) refl

-- ---- a NaN beside a finite maximum
sum_nan : (n : ℕ) (f : ℕ → Float) (k : ℕ) → k < n → f k ≡ nan → sum_to n f ≡ nan
unfolding sum_to
sum_nan zero f k l h = absurd (not-suc-le-zero l)
sum_nan (suc n) f k l h =
    ⊎_elim
    (λ (q : k ≡ n). let h' : f n ≡ nan = rw q at h in rw h' (plus_nan (sum_to n f)))
    (λ (g : k < n). rw (sum_nan n f k g h) (nan_plus (f n)))
    (last_or_before l)

term_nan : (xs : List Float) (m : Float) (k : ℕ) → xs ! k ≡ nan → exp_term xs m k ≡ nan
unfolding exp_term sub add
term_nan xs m k h = rw h exp_nan

pub log_sum_nan : (xs : List Float) (k : ℕ) → k < length xs → xs ! k ≡ nan → finite (max_to (length xs) xs) ≡ true → log_sum_exp xs ≡ nan
unfolding log_sum_exp log_sum_at
log_sum_nan xs k l h f =
    let m = max_to (length xs) xs in
    rw (f, sum_nan (length xs) (exp_term xs m) k l (term_nan xs m k h), ln_nan) (plus_nan m)

-- ---- else the largest m plus the logarithm of the sum, m being finite
pub log_sum_value : (xs : List Float) (m : Float) → m ≡ max_to (length xs) xs → finite m ≡ true → m ⊕ ln_of (sum_to (length xs) (exp_term xs m)) ≡ log_sum_exp xs
unfolding log_sum_exp log_sum_at
log_sum_value xs m e f = rw (← e, f) refl

-- and -infinity where it is not
pub log_sum_not_finite : (xs : List Float) (m : Float) → m ≡ max_to (length xs) xs → finite m ≡ false → log_sum_exp xs ≡ inf true
unfolding log_sum_exp log_sum_at
log_sum_not_finite xs m e f = rw (← e, f) refl
