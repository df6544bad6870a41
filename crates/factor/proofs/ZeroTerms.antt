-- Zeros at the head of a sum from +0.0 leave it at +0.0, so a sum may begin behind them; a zero times a finite number is one. Assumes nothing.
use mathlib.Core.Path.{◌≡◌, refl, sym, ◌∙◌}
use mathlib.Core.List.{List}
use mathlib.Core.Bool.{Bool, true, false, ◌||◌, beq}
use mathlib.Core.Logic.{⊎_elim}
use Prim.Native.Nat.compare
use Prim.Native.Nat.{ℕ, zero, suc, ◌+◌, ◌-◌, ◌*◌, ◌≤◌, ◌<◌}
use native.Mathlib.Nat.{zero-mul, mul-one, mul-pos, one-mul, zero-div, zero-mod, not-suc-le-zero}
use native.Mathlib.Omega.{arith}
use borrow.Author.Tests.{eqb-true, not-true, not-false}
use lib.Dec.{eqb}
use lib.IntN.{pos}
use lib.Ieee.{Float, nan, inf, fin, binary64, up, down, level, unlike, size, span, climb, odd, units, round, sum, add, mul, eq, ne, of_bits}
use lib.Ieee.Fits.{down_pos}
use Rattle.base.specs.Number.{◌⊕◌, ◌⊗◌, zero_f, finite}
use Rattle.base.specs.Sum.{◌!◌, sum_to, sum_from}
use Rattle.base.specs.List.{at}
use Rattle.base.proofs.Doubles.{ff}
use Rattle.base.proofs.Sums.{and_true, last_or_before}
use Rattle.factor.specs.Substitution.{across_term, down_term}
use Rattle.factor.specs.Heads.{FirstOther, Zeros, Head}

-- ---- one zero
round_nothing : (c : ℕ) → 0 < c → round binary64 false 0 c ≡ zero_f
unfolding round units odd size span climb of_bits
round_nothing zero l = absurd (not-suc-le-zero l)
round_nothing (suc c) l = rw (zero-div (suc c), mul-one (suc c), zero-div (suc c), zero-mod (suc c), compare.zero-suc c) refl

sum_nothing : (t : Bool) (c : ℕ) → 0 < c → sum binary64 false 0 t 0 c ≡ zero_f
unfolding sum
sum_nothing true c l = round_nothing c l
sum_nothing false c l = round_nothing c l

level_zero : (s : Bool) (a b : ℕ) → level s a false b ≡ true → b ≡ 0 → a ≡ 0
level_zero s a b h z = eqb-true a b (sym (and_true (eqb a b) (beq s false || eqb a 0) (sym h)).0) ∙ z

-- +0.0 and a zero of either sign
pub plus_zero : (x : Float) → eq x zero_f ≡ true → zero_f ⊕ x ≡ zero_f
unfolding eq add of_bits
plus_zero nan h = absurd (ff h)
plus_zero (inf s) h = absurd (ff h)
plus_zero (fin s m e) h =
    let q : m * up e * 1 ≡ 0 = level_zero s (m * up e * 1) (0 * down e) h (zero-mul (down e)) in
    rw (q, zero-mul (down e), one-mul (down e)) (sum_nothing s (down e) (down_pos e))

-- ---- a zero times a finite number
round_zero : (s : Bool) (c : ℕ) → 0 < c → round binary64 s 0 c ≡ fin s 0 (pos 0)
unfolding round units odd size span climb
round_zero s zero l = absurd (not-suc-le-zero l)
round_zero s (suc c) l = rw (zero-div (suc c), mul-one (suc c), zero-div (suc c), zero-mod (suc c), compare.zero-suc c) refl

signed_zero : (s : Bool) → eq (fin s 0 (pos 0)) zero_f ≡ true
unfolding eq of_bits
signed_zero true = refl
signed_zero false = refl

pub zero_times : (l x : Float) → eq l zero_f ≡ true → finite x ≡ true → eq (l ⊗ x) zero_f ≡ true
unfolding eq mul of_bits finite
zero_times nan x h f = absurd (ff h)
zero_times (inf s) x h f = absurd (ff h)
zero_times (fin s m e) nan h f = absurd (ff f)
zero_times (fin s m e) (inf t) h f = absurd (ff f)
zero_times (fin s m e) (fin t n d) h f =
    let q : m * up e ≡ 0 = sym (mul-one (m * up e)) ∙ level_zero s (m * up e * 1) (0 * down e) h (zero-mul (down e)) in
    rw (q, zero-mul (n * up d), round_zero (unlike s t) (down e * down d) (mul-pos (down_pos e) (down_pos d))) (signed_zero (unlike s t))

-- ---- the zeros at the head
pub head_to : (f : ℕ → Float) (n : ℕ) → ((k : ℕ) → k < n → eq (f k) zero_f ≡ true) → zero_f ≡ sum_to n f
unfolding sum_to
head_to f zero h = refl
head_to f (suc n) h = rw (← head_to f n (λ k l. h k (omega arith))) (sym (plus_zero (f n) (h n (omega arith))))

pub head_from : (f : ℕ → Float) (a r : ℕ) → ((k : ℕ) → a ≤ k → k < r → eq (f k) zero_f ≡ true) → zero_f ≡ sum_from a r f
unfolding sum_from
head_from f a r h = head_to (λ k. f (a + k)) (r - a) (λ k l. h (a + k) (omega arith) (omega arith))

-- ---- the test, as the loop makes it
pub other : (x : Float) → ne x zero_f ≡ true → eq x zero_f ≡ false
unfolding ne
other x h = not-true (eq x zero_f) h

pub zeros_step : (f : ℕ → Float) (a r : ℕ) → ((k : ℕ) → a ≤ k → k < r → eq (f k) zero_f ≡ true) → ne (f r) zero_f ≡ false → (k : ℕ) → a ≤ k → k < r + 1 → eq (f k) zero_f ≡ true
unfolding ne
zeros_step f a r h z k l m = ⊎_elim (λ (q : k ≡ r). rw q (not-false (eq (f r) zero_f) z)) (λ (b : k < r). h k l b) (last_or_before (suc_is m))
  where
    suc_is : k < r + 1 → k < suc r
    suc_is m = omega arith

-- of a term below the diagonal, whose row begins at o
pub down_test : (s : ℕ) (L : List Float) (i o k : ℕ) (x : ℕ → Float) (b : Bool) → o ≡ k * s → ne ((L ! (o + i)) ⊗ x k) zero_f ≡ b → ne (down_term s L i x k) zero_f ≡ b
unfolding down_term
down_test s L i o k x b e h = rw e at h

-- of an entry of L, whose row begins at o
pub row_test : (s : ℕ) (L : List Float) (i k o : ℕ) (b : Bool) → o ≡ i * s → ne (L ! (o + k)) zero_f ≡ b → ne (at s L i k) zero_f ≡ b
row_test s L i k o b e h = rw e at h

-- ---- where a sum begins
pub behind_head : (t : Bool) (a e : ℕ) (f : ℕ → Float) (r : ℕ) → t ≡ true → FirstOther a e f r → Head t a e f r
behind_head t a e f r q h = record { behind = λ _. h; whole = λ p. absurd (ff (sym p ∙ q)) }

pub head_bounds : (t : Bool) (a e : ℕ) (f : ℕ → Float) (r : ℕ) → Head t a e f r → a ≤ e → (a ≤ r) × (r ≤ e)
head_bounds true a e f r h l = ((h.behind refl).from, (h.behind refl).to)
head_bounds false a e f r h l = let q : r ≡ a = h.whole refl in (omega arith, omega arith)

head_zeros : (t : Bool) (a e : ℕ) (f : ℕ → Float) (r : ℕ) → Head t a e f r → (k : ℕ) → a ≤ k → k < r → (t ≡ true) × (eq (f k) zero_f ≡ true)
head_zeros true a e f r h k l m = (refl, (h.behind refl).zeros k l m)
head_zeros false a e f r h k l m = let q : r ≡ a = h.whole refl in absurd (omega arith)

-- where the entries that row i of L meets are finite, what stands before the head of row i is left out
pub across_zeros : (s i : ℕ) (L : List Float) (x : ℕ → Float) (t : Bool) (r : ℕ) → Head t 0 i (λ k. at s L i k) r → (t ≡ true → (k : ℕ) → k < i → finite (x k) ≡ true) → Zeros 0 r (across_term s L i x)
unfolding across_term
across_zeros s i L x t r h f k l m =
    let z : (t ≡ true) × (eq (at s L i k) zero_f ≡ true) = head_zeros t 0 i (λ j. at s L i j) r h k l m in
    let e : r ≤ i = (head_bounds t 0 i (λ j. at s L i j) r h (omega arith)).1 in
    zero_times (at s L i k) (x k) z.1 (f z.0 k (omega arith))

-- the same of column i, below the diagonal
pub down_zeros : (s i : ℕ) (L : List Float) (x : ℕ → Float) (t : Bool) (r : ℕ) → i < s → Head t (i + 1) s (λ k. at s L k i) r → (t ≡ true → (k : ℕ) → i < k → k < s → finite (x k) ≡ true) → Zeros (i + 1) r (down_term s L i x)
unfolding down_term
down_zeros s i L x t r b h f k l m =
    let z : (t ≡ true) × (eq (at s L k i) zero_f ≡ true) = head_zeros t (i + 1) s (λ j. at s L j i) r h k l m in
    let e : r ≤ s = (head_bounds t (i + 1) s (λ j. at s L j i) r h (omega arith)).1 in
    zero_times (at s L k i) (x k) z.1 (f z.0 k (omega arith) (omega arith))
