-- Laws of a square that is written row by row: entries that stay, rows up to the diagonal, and the rule below, on and above it. Assumes nothing.
use mathlib.Core.Path.{◌≡◌, refl, sym, ap, ◌∙◌}
use mathlib.Core.List.{List}
use mathlib.Core.Logic.{⊎_elim}
use Prim.Native.Nat.{ℕ, zero, suc, ◌+◌, ◌-◌, ◌*◌, ◌<◌, ◌≤◌}
use native.Mathlib.Nat.{suc-mul, add-zero, add-suc, mul-le-mul_right}
use native.Mathlib.Numerals.{add-one}
use native.Mathlib.Omega.{arith}
use lib.ListN.{length, set, length-set}
use lib.Seq.{get_or-set_same, get_or-set_other}
use lib.Ieee.{Float, nan}
use borrow.Author.Tests.{lt-ltb, le-ltb, eq-eqb, ne_eqb}
use Rattle.base.specs.Sum.{◌!◌}
use Rattle.base.specs.InPlace.{Rule, ruled, fill_by}
use Rattle.base.proofs.Sums.{lt_or_ge, last_or_before}
use Rattle.base.proofs.Fills.{row_fits}
use Rattle.base.proofs.InPlace.{by_step, by_skip, length_by}
use Rattle.factor.specs.Triangle.{triangle, row_by}

-- ---- places
-- a place of the lower triangle before (i, j) is in the square
pub inside : (s a c i j : ℕ) → c ≤ a → i < s → j ≤ i → a * s + c < i * s + j → a < s
inside s a c i j m l n q =
    ⊎_elim (λ (h : a < s). h) (λ (h : s ≤ a). let up : s * s ≤ a * s = mul-le-mul_right s h in absurd (omega (arith, row_fits i s s l))) (lt_or_ge a s)

-- ---- below, on and above the diagonal
pub triangle_below : (i j : ℕ) (p q r : Float) → j < i → triangle i j p q r ≡ p
unfolding triangle
triangle_below i j p q r l = rw (lt-ltb j i l) refl

pub triangle_on : (i : ℕ) (p q r : Float) → triangle i i p q r ≡ q
unfolding triangle
triangle_on i p q r = rw (le-ltb i i (omega arith), eq-eqb i i refl) refl

pub triangle_above : (i j : ℕ) (p q r : Float) → i < j → triangle i j p q r ≡ r
unfolding triangle
triangle_above i j p q r l = rw (le-ltb j i (omega arith), ne_eqb j i (λ e. omega arith)) refl

-- ---- what an in-place run leaves of an entry, with no word on what the rule looks at
-- an entry that was not reached
pub by_rest : (g : Rule) (n : ℕ) (b : List Float) (t : ℕ) → n ≤ t → fill_by g n b ! t ≡ b ! t
unfolding fill_by ruled
by_rest g zero b t l = refl
by_rest g (suc n) b t l = get_or-set_other (fill_by g n b) n t _ nan (λ e. omega arith) ∙ by_rest g n b t (omega arith)

-- an entry that was written stays
pub by_kept : (g : Rule) (m n : ℕ) (b : List Float) (t : ℕ) → t < m → m ≤ n → fill_by g n b ! t ≡ fill_by g m b ! t
unfolding fill_by ruled
by_kept g m zero b t l h = absurd (omega arith)
by_kept g m (suc n) b t l h =
    ⊎_elim
    (λ (q : m ≡ suc n). rw q refl)
    (λ (p : m < suc n). get_or-set_other (fill_by g n b) n t _ nan (λ e. omega arith) ∙ by_kept g m n b t l (omega arith))
    (last_or_before {k = m} {n = suc n} (omega arith))

-- an entry is the rule's value at the time it was written
pub by_entry : (g : Rule) (n : ℕ) (b : List Float) (t : ℕ) → t < n → n ≤ length b → fill_by g n b ! t ≡ g t (λ k. fill_by g t b ! k) (fill_by g t b ! t)
unfolding fill_by ruled
by_entry g n b t l h = by_kept g (suc t) n b t (omega arith) l ∙ get_or-set_same (fill_by g t b) t _ nan (omega (arith, length_by g t b))

-- entries that the rule keeps are passed over
pub by_skips : (g : Rule) (m n : ℕ) (b : List Float) → m ≤ n → ((t : ℕ) → m ≤ t → t < n → (x : ℕ → Float) (o : Float) → g t x o ≡ o) → fill_by g m b ≡ fill_by g n b
by_skips g m zero b l h = let q : m ≡ 0 = omega arith in rw q refl
by_skips g m (suc n) b l h =
    ⊎_elim
    (λ (q : m ≡ suc n). rw q refl)
    (λ (p : m < suc n).
    let last : fill_by g (n + 1) b ≡ fill_by g n b = by_skip g n b (h n (omega arith) (omega arith)) in
    by_skips g m n b (omega arith) (λ t a c. h t a (omega arith)) ∙ sym (rw (add-one n) at last))
    (last_or_before {k = m} {n = suc n} (omega arith))

-- ---- a row up to its diagonal, as a loop writes it
pub row_none : (g : Rule) (o : ℕ) (b : List Float) → b ≡ row_by g o 0 b
unfolding row_by
row_none g o b = refl

pub row_step : (g : Rule) (o j : ℕ) (b X : List Float) → X ≡ row_by g o j b → set X (o + j) (g (o + j) (λ k. X ! k) (X ! (o + j))) ≡ row_by g o (j + 1) b
unfolding row_by ruled
row_step g o j b X e = rw (e, add-one j) refl

pub row_end : (g : Rule) (o k n : ℕ) (b X : List Float) → X ≡ row_by g o k b → k ≤ n → n ≤ k → X ≡ row_by g o n b
row_end g o k n b X e l m = let q : k ≡ n = omega arith in rw (← q) e

pub length_row : (g : Rule) (o n : ℕ) (b : List Float) → length (row_by g o n b) ≡ length b
unfolding row_by ruled
length_row g o zero b = refl
length_row g o (suc n) b = length-set (row_by g o n b) (o + n) _ ∙ length_row g o n b

-- behind what was filled up to o it goes on filling
pub row_on : (g : Rule) (o n : ℕ) (b : List Float) → row_by g o n (fill_by g o b) ≡ fill_by g (o + n) b
unfolding row_by fill_by
row_on g o zero b = rw (add-zero o) refl
row_on g o (suc n) b = rw (row_on g o n b, add-suc o n) refl

-- ---- row i of the square: P with the rows before it done, X with its entries before the diagonal too
module _ (g : Rule) (s i : ℕ) (b P X : List Float) (l : i < s) (eP : P ≡ fill_by g (i * s) b) (eX : X ≡ row_by g (i * s) i P) where
  pub row_reached : X ≡ fill_by g (i * s + i) b
  row_reached = eX ∙ ap (row_by g (i * s) i) eP ∙ row_on g (i * s) i b

  -- the pivot that the whole run writes is the rule's value now
  pub pivot_now : s * s ≤ length b → fill_by g (s * s) b ! (i * s + i) ≡ g (i * s + i) (λ k. X ! k) (X ! (i * s + i))
  pivot_now h = rw row_reached (by_entry g (s * s) b (i * s + i) (omega (arith, row_fits i s s l)) h)

  -- its entries before the diagonal stay
  pub row_stays : (j : ℕ) → j < i → fill_by g (s * s) b ! (i * s + j) ≡ X ! (i * s + j)
  row_stays j m = rw row_reached (by_kept g (i * s + i) (s * s) b (i * s + j) (omega arith) (omega (arith, row_fits i s s l)))

  -- with its pivot the row is done, where the rule keeps what is above the diagonal
  pub row_done : (v : Float) → ((j : ℕ) → i < j → j < s → (x : ℕ → Float) (o : Float) → g (i * s + j) x o ≡ o) → v ≡ g (i * s + i) (λ k. X ! k) (X ! (i * s + i)) → set X (i * s + i) v ≡ fill_by g ((i + 1) * s) b
  row_done v keeps e = rw e (by_step g (i * s + i) b X row_reached) ∙ by_skips g (i * s + i + 1) ((i + 1) * s) b bound stays
    where
      bound : i * s + i + 1 ≤ (i + 1) * s
      bound = rw (add-one i, suc-mul) (omega arith)

      stays : (t : ℕ) → i * s + i + 1 ≤ t → t < (i + 1) * s → (x : ℕ → Float) (o : Float) → g t x o ≡ o
      stays t a m x o =
          let m' : t < i * s + s = rw (add-one i, suc-mul) at m in
          let d : i * s + (t - i * s) ≡ t = omega arith in
          let k : g (i * s + (t - i * s)) x o ≡ o = keeps (t - i * s) (omega arith) (omega arith) x o in
          rw d at k

-- what closes the needs of a loop over a row
pub ruleset rowwise = (row_none, row_end, length_row)
