-- Laws of a pivot's tests and of the first that fails. Assumes nothing.
use Rattle.std.specs.Prelude.{Result, Ok, Err, ⊤}
use Prim.{tt}
use mathlib.Core.Path.{◌≡◌, refl, sym, ap}
use mathlib.Core.Bool.{Bool, true, false}
use mathlib.Core.Logic.{⊎_elim}
use Prim.Native.Nat.{ℕ, zero, suc, ◌+◌, ◌<◌, ◌≤◌}
use native.Mathlib.Nat.{not-suc-le-zero}
use native.Mathlib.Numerals.{add-one}
use native.Mathlib.Omega.{arith}
use lib.Ieee.{Float, lt, eq, ne}
use Rattle.base.specs.Number.{zero_f, finite}
use Rattle.base.proofs.Sums.{last_or_before}
use Rattle.factor.specs.Triangle.{usable, positive, and_then, first_bad}

-- ---- the tests
pub usable_finite : (d : Float) → finite d ≡ true → ne d zero_f ≡ usable d
unfolding usable eq ne
usable_finite d f = rw f refl

pub usable_not : (d : Float) → finite d ≡ false → false ≡ usable d
unfolding usable
usable_not d f = rw f refl

pub positive_above : (d : Float) → lt zero_f d ≡ true → finite d ≡ positive d
unfolding positive
positive_above d l = rw l refl

pub positive_not : (d : Float) → lt zero_f d ≡ false → false ≡ positive d
unfolding positive
positive_not d l = rw l refl

-- ---- the first that fails, as a loop finds it
pub first_none : (t : ℕ → Bool) → Ok tt ≡ first_bad 0 t
unfolding first_bad
first_none t = refl

pub first_step : (t : ℕ → Bool) (k : ℕ) → Ok tt ≡ first_bad k t → t k ≡ true → Ok tt ≡ first_bad (k + 1) t
unfolding first_bad and_then
first_step t k e h = rw (add-one k, ← e, h) refl

pub first_end : (t : ℕ → Bool) (k n : ℕ) → Ok tt ≡ first_bad k t → k ≤ n → n ≤ k → Ok tt ≡ first_bad n t
first_end t k n e l m = let q : k ≡ n = omega arith in rw (← q) e

pub first_stop : (t : ℕ → Bool) (n k : ℕ) → Ok tt ≡ first_bad k t → t k ≡ false → k < n → Err k ≡ first_bad n t
unfolding first_bad and_then
first_stop t zero k e h l = absurd (not-suc-le-zero l)
first_stop t (suc n) k e h l =
    ⊎_elim (λ (q : k ≡ n). rw (← q, ← e, h) refl) (λ (m : k < n). rw (← first_stop t n k e h m) refl) (last_or_before l)

-- ---- what an end says
done_before : (n : ℕ) (f : Result ⊤ ℕ) (b : Bool) → Ok tt ≡ and_then f n b → (Ok tt ≡ f) × (b ≡ true)
unfolding and_then
done_before n (Err k) b e = let z : ◌≡◌ {A = ℕ} 0 1 = cc in absurd (omega arith)
done_before n (Ok tt) true e = (refl, refl)
done_before n (Ok tt) false e = let z : ◌≡◌ {A = ℕ} 0 1 = cc in absurd (omega arith)

-- all pivots pass
pub first_done : (t : ℕ → Bool) (n : ℕ) → Ok tt ≡ first_bad n t → (k : ℕ) → k < n → t k ≡ true
unfolding first_bad
first_done t zero e k l = absurd (not-suc-le-zero l)
first_done t (suc n) e k l =
    let h : (Ok tt ≡ first_bad n t) × (t n ≡ true) = done_before n (first_bad n t) (t n) e in
    ⊎_elim (λ (q : k ≡ n). rw q h.1) (λ (m : k < n). first_done t n h.0 k m) (last_or_before l)

-- the first that fails, and those before it pass
pub record FirstBad (t : ℕ → Bool) (n k : ℕ) : Type 0 where
  pub below : k < n
  pub fails : t k ≡ false
  pub before : (j : ℕ) → j < k → t j ≡ true

bad_last : (t : ℕ → Bool) (n k : ℕ) (f : Result ⊤ ℕ) (b : Bool) → f ≡ first_bad n t → b ≡ t n → ((j : ℕ) → f ≡ Err j → FirstBad t n j) → Err k ≡ and_then f n b → FirstBad t (suc n) k
unfolding and_then
bad_last t n k (Err j) b ef eb ih e =
    let q : j ≡ k = cc in
    let h : FirstBad t n k = ih k (ap Err q) in
    record { below = omega (arith, h.below); fails = h.fails; before = h.before }
bad_last t n k (Ok tt) true ef eb ih e = let z : ◌≡◌ {A = ℕ} 0 1 = cc in absurd (omega arith)
bad_last t n k (Ok tt) false ef eb ih e =
    let q : n ≡ k = cc in
    rw (← q) (record { below = omega arith; fails = sym eb; before = first_done t n ef })

pub first_bad_lem : (t : ℕ → Bool) (n k : ℕ) → Err k ≡ first_bad n t → FirstBad t n k
unfolding first_bad
first_bad_lem t zero k e = let z : ◌≡◌ {A = ℕ} 0 1 = cc in absurd (omega arith)
first_bad_lem t (suc n) k e = bad_last t n k (first_bad n t) (t n) refl refl (λ j q. first_bad_lem t n j (sym q)) e

-- tests that agree have one end
pub first_cong : (t u : ℕ → Bool) (n : ℕ) → ((k : ℕ) → k < n → t k ≡ u k) → first_bad n t ≡ first_bad n u
unfolding first_bad
first_cong t u zero h = refl
first_cong t u (suc n) h = rw (first_cong t u n (λ k l. h k (omega arith)), h n (omega arith)) refl
