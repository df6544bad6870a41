-- Sums of LDL' that begin behind the zeros at the head of a row: such a zero, times numbers that are finite, is one. Assumes nothing.
use mathlib.Core.Path.{◌≡◌, refl, sym, ap, ◌∙◌}
use mathlib.Core.List.{List}
use mathlib.Core.Bool.{Bool, true, false, ◌&&◌, cond}
use mathlib.Core.Logic.{⊎_elim}
use Prim.Native.Nat.{ℕ, zero, suc, ◌+◌, ◌*◌, ◌<◌, ◌≤◌}
use native.Mathlib.Nat.{eq-or-lt_of_le}
use native.Mathlib.Omega.{arith}
use lib.Dec.{eqb}
use lib.ListN.{length, set}
use lib.Seq.{get_or-set_same, get_or-set_other}
use lib.Ieee.{Float, nan, inf, fin, eq, of_bits}
use borrow.Author.Tests.{eq-eqb, ne_eqb, eqb-true}
use Rattle.base.specs.Number.{◌⊗◌, zero_f, finite}
use Rattle.base.specs.Sum.{◌!◌, all_to}
use Rattle.base.specs.List.{at}
use Rattle.base.specs.InPlace.{Rule, ruled}
use Rattle.base.proofs.Doubles.{ff}
use Rattle.base.proofs.Sums.{last_or_before, and_true, all_at}
use Rattle.base.proofs.Fills.{row_fits}
use Rattle.factor.specs.Triangle.{row_by}
use Rattle.factor.specs.Heads.{Zeros, FineRows, ZeroHead, next_head}
use Rattle.factor.specs.Factor.{ldl_term}
use Rattle.factor.proofs.ZeroTerms.{zero_times}

-- ---- the terms that are left out
zero_finite : (x : Float) → eq x zero_f ≡ true → finite x ≡ true
unfolding eq finite of_bits
zero_finite nan h = absurd (ff h)
zero_finite (inf s) h = absurd (ff h)
zero_finite (fin s m e) h = refl

pub ldl_zeros : (s i j r : ℕ) (X : List Float) (t : Bool) → j ≤ i → r ≤ j → ZeroHead t s i X r → (t ≡ true → FineRows s X i) → Zeros 0 r (ldl_term s (λ k. X ! k) i j)
unfolding ldl_term
ldl_zeros s i j r X t l h zeros fine k p m =
    let z : (t ≡ true) × (eq (at s X i k) zero_f ≡ true) = zeros k m in
    let other : finite (at s X j k) ≡ true =
    ⊎_elim (λ (q : j ≡ i). rw q (zero_finite (at s X i k) z.1)) (λ (q : j < i). fine z.0 j k q (omega arith)) (eq-or-lt_of_le l) in
    zero_times (at s X i k ⊗ at s X j k) (at s X k k) (zero_times (at s X i k) (at s X j k) z.1 other) (fine z.0 k k (omega arith) (omega arith))

-- ---- the rows before row i stay while it is written
row_before : (g : Rule) (o n : ℕ) (b : List Float) (t : ℕ) → t < o → row_by g o n b ! t ≡ b ! t
unfolding row_by ruled
row_before g o zero b t l = refl
row_before g o (suc n) b t l = get_or-set_other (row_by g o n b) (o + n) t _ nan (λ e. omega arith) ∙ row_before g o n b t l

earlier : (s i a k : ℕ) → i < s → a < i → k ≤ a → a * s + k < i * s
earlier s i a k l m n = omega (arith, row_fits a i s m)

pub fine_kept : (g : Rule) (s i j : ℕ) (b X : List Float) (t : Bool) → i < s → X ≡ row_by g (i * s) j b → (t ≡ true → FineRows s b i) → t ≡ true → FineRows s X i
fine_kept g s i j b X t l e fine q a k m n =
    ap finite (ap (λ (w : List Float). at s w a k) e ∙ row_before g (i * s) j b (a * s + k) (earlier s i a k l m n)) ∙ fine q a k m n

-- ---- one entry more of row i
and_no : (b : Bool) → (b && false) ≡ false
and_no true = refl
and_no false = refl

module _ (s i j head io : ℕ) (X : List Float) (t : Bool) (l : Float) (eo : io ≡ i * s) (fits : io + j < length X) (low : head ≤ j) (zeros : ZeroHead t s i X head) where
  kept : ZeroHead t s i (set X (io + j) l) head
  kept k m = ((zeros k m).0, ap (λ (y : Float). eq y zero_f) (get_or-set_other X (io + j) (i * s + k) l nan (λ e. omega arith)) ∙ (zeros k m).1)

  grown : t ≡ true → head ≡ j → eq l zero_f ≡ true → ZeroHead t s i (set X (io + j) l) (j + 1)
  grown q e z k m =
      let m' : k < suc j = omega arith in
      ⊎_elim
      (λ (y : k ≡ j). let here : set X (io + j) l ! (io + j) ≡ l = get_or-set_same X (io + j) l nan fits in let there : set X (io + j) l ! (i * s + j) ≡ l = ap (λ (p : ℕ). set X (io + j) l ! (p + j)) (sym eo) ∙ here in (q, rw y (ap (λ (v : Float). eq v zero_f) there ∙ z)))
      (λ (y : k < j). kept k (omega arith))
      (last_or_before m')

  by_case : (c : Bool) → (t && (eqb head j && eq l zero_f)) ≡ c → (cond c (j + 1) head ≤ j + 1) × ZeroHead t s i (set X (io + j) l) (cond c (j + 1) head)
  by_case true e =
      let p : (true ≡ t) × (true ≡ (eqb head j && eq l zero_f)) = and_true t (eqb head j && eq l zero_f) (sym e) in
      let r : (true ≡ eqb head j) × (true ≡ eq l zero_f) = and_true (eqb head j) (eq l zero_f) p.1 in
      (omega arith, grown (sym p.0) (eqb-true head j (sym r.0)) (sym r.1))
  by_case false e = (omega arith, kept)

  pub next_made : (r : ℕ) → r ≡ next_head t head j l → (r ≤ j + 1) × ZeroHead t s i (set X (io + j) l) r
  unfolding next_head
  next_made r e = rw e (by_case (t && (eqb head j && eq l zero_f)) refl)

module _ (t : Bool) (head j : ℕ) (l : Float) where
  pub next_grown : t ≡ true → head ≡ j → eq l zero_f ≡ true → j + 1 ≡ next_head t head j l
  unfolding next_head
  next_grown p q r = rw (p, eq-eqb head j q, r) refl

  pub next_other : eq l zero_f ≡ false → head ≡ next_head t head j l
  unfolding next_head
  next_other r = rw (r, and_no (eqb head j), and_no t) refl

  pub next_apart : (head ≡ j → ⊥) → head ≡ next_head t head j l
  unfolding next_head
  next_apart q = rw (ne_eqb head j q, and_no t) refl

  pub next_barred : t ≡ false → head ≡ next_head t head j l
  unfolding next_head
  next_barred p = rw p refl

-- ---- one row more that is finite
all_cong : (n : ℕ) (t u : ℕ → Bool) → ((k : ℕ) → k < n → t k ≡ u k) → all_to n t ≡ all_to n u
unfolding all_to
all_cong zero t u h = refl
all_cong (suc n) t u h = rw (all_cong n t u (λ k l. h k (omega arith)), h n (omega arith)) refl

pub fine_next : (s i io : ℕ) (X : List Float) (v : Float) (t r : Bool) → i < s → io ≡ i * s → r ≡ (t && all_to (i + 1) (λ k. finite (at s (set X (io + i) v) i k))) → (t ≡ true → FineRows s X i) → r ≡ true → FineRows s (set X (io + i) v) (i + 1)
fine_next s i io X v t r l eo e fine q a k m n =
    let p : (true ≡ t) × (true ≡ all_to (i + 1) (λ h. finite (at s (set X (io + i) v) i h))) = and_true t _ (sym (sym e ∙ q)) in
    let m' : a < suc i = omega arith in
    ⊎_elim
    (λ (y : a ≡ i). rw y (all_at (λ h. finite (at s (set X (io + i) v) i h)) (i + 1) p.1 k (omega arith)))
    (λ (y : a < i). ap finite (get_or-set_other X (io + i) (a * s + k) v nan (λ z. omega (arith, earlier s i a k l y n))) ∙ fine (sym p.0) a k y n)
    (last_or_before m')
