-- Laws of `total_to`, sums of whole numbers over ascending index: none, one more, the end, and their bounds. Assumes nothing.
use mathlib.Core.Path.{◌≡◌, refl}
use mathlib.Core.Logic.{⊎_elim}
use Prim.Native.Nat.{ℕ, zero, suc, ◌+◌, ◌*◌, ◌<◌, ◌≤◌}
use native.Mathlib.Nat.{eq-or-lt_of_le, le_of_suc-le-suc, mul-suc}
use native.Mathlib.Numerals.{add-one}
use native.Mathlib.Omega.{arith}
use Rattle.model.specs.Shape.{total_to}

pub total_none : (f : ℕ → ℕ) → 0 ≡ total_to 0 f
unfolding total_to
total_none f = refl

pub total_step : (f : ℕ → ℕ) (k s : ℕ) → s ≡ total_to k f → s + f k ≡ total_to (k + 1) f
unfolding total_to
total_step f k s e = rw (e, add-one) refl

pub total_end : (f : ℕ → ℕ) (k n s : ℕ) → s ≡ total_to k f → k ≤ n → n ≤ k → s ≡ total_to n f
total_end f k n s e l m = let q : k ≡ n = omega arith in rw (← q) e

-- a shorter sum is no larger
pub total_grows : (f : ℕ → ℕ) (i n : ℕ) → i ≤ n → total_to i f ≤ total_to n f
unfolding total_to
total_grows f i zero l = let e : i ≡ 0 = omega arith in rw e (omega arith)
total_grows f i (suc n) l =
    ⊎_elim (λ e. rw e (omega arith)) (λ m. omega (arith, total_grows f i n (le_of_suc-le-suc m))) (eq-or-lt_of_le l)

-- each part is at most the sum, together with the parts before it
pub total_part : (f : ℕ → ℕ) (i n : ℕ) → i < n → total_to i f + f i ≤ total_to n f
total_part f i n l = omega (arith, total_step f i (total_to i f) refl, total_grows f (i + 1) n (omega arith))

-- the sum of parts that are each at most c
pub total_most : (f : ℕ → ℕ) (c n : ℕ) → ((i : ℕ) → i < n → f i ≤ c) → total_to n f ≤ c * n
unfolding total_to
total_most f c zero h = omega arith
total_most f c (suc n) h = omega (arith, mul-suc c n, h n (omega arith), total_most f c n (λ i l. h i (omega arith)))
