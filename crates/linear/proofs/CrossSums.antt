-- Laws of X'WX summed side by side: one observation more, some columns more of a row, one row more. Assumes nothing.
use mathlib.Core.Path.{◌≡◌, sym, ap, ◌∙◌}
use mathlib.Core.List.{List}
use mathlib.Core.Logic.{inl, ⊎_elim}
use Prim.Native.Nat.{ℕ, ◌+◌, ◌*◌, ◌-◌, ◌<◌, ◌≤◌}
use native.Mathlib.Nat.{le_antisymm}
use native.Mathlib.Omega.{arith}
use lib.ListN.{length, set}
use borrow.Rule.Slice.PartMut.{put_mid, mid_of, mid_len}
use lib.Ieee.{Float}
use Rattle.base.specs.Number.{◌⊗◌, ◌⊕◌}
use Rattle.base.specs.Sum.{◌!◌, sum_to}
use Rattle.base.specs.List.{at, build, fill_to, zero_at, entry_of}
use Rattle.base.specs.Rows.{Wrote}
use Rattle.base.proofs.Sums.{lt_or_ge, sum_none, sum_step}
use Rattle.base.proofs.Fills.{build_length, build_at, build_cong, length_fill, fill_step, fill_in, fill_past, fill_is, fill_build, row_fits}
use Rattle.base.proofs.Rows.{row_at, part_wrote}
use Rattle.linear.specs.Product.{xw_at, column_term, cross_at}
use Rattle.linear.specs.SideBySide.{added_at, cross_from, begin_at, RowOn, RowLeft}

-- ---- one sum more

-- a sum that is still to come is what it was
pub added_step : (v : Float) (x : List Float) (o k : ℕ) (b s : List Float) → s ≡ fill_to k (added_at v x o b) b → set s k ((s ! k) ⊕ v ⊗ (x ! (o + k))) ≡ fill_to (k + 1) (added_at v x o b) b
added_step v x o k b s e =
    let was : s ! k ≡ b ! k = ap (λ (l : List Float). l ! k) e ∙ fill_past k (added_at v x o b) b k (omega arith) in
    ap (λ (y : Float). set s k (y ⊕ v ⊗ (x ! (o + k)))) was ∙ fill_step (added_at v x o b) b k s e

-- ---- one observation more

-- what the first i of the n observations make of entry (a, b + k)
unfoldable pub cross_to : List Float → ℕ → ℕ → List Float → ℕ → ℕ → ℕ → ℕ → Float
cross_to x p n w a b i k = sum_to i (column_term x p (build (xw_at x p w a) n) (b + k))

module _ (x : List Float) (p n : ℕ) (w : List Float) (a b count : ℕ) where
  pub cross_none : build zero_at count ≡ build (cross_to x p n w a b 0) count
  unfolding cross_to
  cross_none = build_cong zero_at (cross_to x p n w a b 0) count (λ k l. sum_none _)

  pub cross_step : (i o c : ℕ) (v : Float) (s : List Float) → i < n → o ≡ i * p → c ≡ o + b → v ≡ (x ! (o + a)) ⊗ (w ! i) → s ≡ build (cross_to x p n w a b i) count
      → fill_to count (added_at v x c s) s ≡ build (cross_to x p n w a b (i + 1)) count
  unfolding cross_to
  cross_step i o c v s l eo ec ev e =
      fill_build count (added_at v x c s) s (ap length e ∙ build_length (cross_to x p n w a b i) count)
      ∙ build_cong (added_at v x c s) (cross_to x p n w a b (i + 1)) count turn
    where
      place : (i k : ℕ) → i * p + b + k ≡ i * p + (b + k)
      place i k = omega arith

      turn : (k : ℕ) → k < count → added_at v x c s k ≡ cross_to x p n w a b (i + 1) k
      turn k m =
          let term : v ⊗ (x ! (c + k)) ≡ column_term x p (build (xw_at x p w a) n) (b + k) i =
          rw (ev, ec, eo) (ap (λ (j : ℕ). ((x ! (i * p + a)) ⊗ (w ! i)) ⊗ (x ! j)) (place i k) ∙ ap (λ (y : Float). y ⊗ at p x i (b + k)) (sym (build_at (xw_at x p w a) n i l))) in
          let was : s ! k ≡ cross_to x p n w a b i k = ap (λ (y : List Float). y ! k) e ∙ build_at (cross_to x p n w a b i) count k m in
          ap (λ (y : Float). (s ! k) ⊕ y) term ∙ sum_step (column_term x p (build (xw_at x p w a) n) (b + k)) i (s ! k) was

  pub cross_done : (i : ℕ) (s : List Float) → s ≡ build (cross_to x p n w a b i) count → i ≤ n → n ≤ i → s ≡ build (cross_from x p n w a b) count
  unfolding cross_to cross_at
  cross_done i s e l m = e ∙ ap (λ (j : ℕ). build (cross_to x p n w a b j) count) (le_antisymm l m)

-- ---- the sums stored, and some columns more of a row

-- sums that are copied stand where they are to stand
pub copied_sums : (f : ℕ → Float) (n : ℕ) (sums v w : List Float) → n ≤ length v → sums ≡ build f n → w ≡ fill_to n (entry_of sums) v → w ≡ fill_to n f v
copied_sums f n sums v w fits made e =
    fill_is n f v w fits (ap length e ∙ length_fill n (entry_of sums) v)
    (λ i l. ap (λ (y : List Float). y ! i) e ∙ fill_in n (entry_of sums) v fits i l ∙ ap (λ (y : List Float). y ! i) made ∙ build_at f n i l)
    (λ i l. ap (λ (y : List Float). y ! i) e ∙ fill_past n (entry_of sums) v i l)

-- columns that begin as late as they may begin at b or before it, and end behind it
pub begin_within : (b p count o : ℕ) → 0 < count → count ≤ p → b < p → o ≡ begin_at b p count → (o ≤ b) × (b < o + count) × (o + count ≤ p)
begin_within b p count o some fits l e = (omega arith, omega arith, omega arith)

module _ (p : ℕ) (f : ℕ → Float) (b o count : ℕ) (v w : List Float) (from : o ≤ b) (to : b < o + count) (fits : o + count ≤ p) (long : length v ≡ p) (done : Wrote o count (build (λ k. f (o + k)) count) v w) where
  on_in : (k : ℕ) → o ≤ k → k < o + count → w ! k ≡ f k
  on_in k l m =
      let e : o + (k - o) ≡ k = omega arith in
      ap (λ (j : ℕ). w ! j) (sym e) ∙ sym (row_at o count w (omega (arith, done.only.len, long)) (k - o) (omega arith))
      ∙ ap (λ (y : List Float). y ! (k - o)) done.row' ∙ build_at (λ k. f (o + k)) count (k - o) (omega arith) ∙ ap f e

  -- columns that were written before are written again
  pub row_on : RowOn p f b (o + count) v w
  row_on =
      record {
        len = done.only.len;
        on = to;
        within = fits;
        more = λ k l m. on_in k (omega arith) m;
        still = λ k l e. ⊎_elim (λ (m : k < o). done.only.kept k (inl m) ∙ e) (λ (m : o ≤ k). on_in k m (omega arith)) (lt_or_ge k o);
      }

-- ---- a row, and all rows

pub row_more : (p : ℕ) (f : ℕ → Float) (b r : ℕ) (v w : List Float) → RowOn p f b r v w → ((k : ℕ) → k < b → v ! k ≡ f k) → (k : ℕ) → k < r → w ! k ≡ f k
row_more p f b r v w h had k l = ⊎_elim (λ (m : k < b). h.still k m (had k m)) (λ (m : b ≤ k). h.more k m l) (lt_or_ge k b)

module _ (p : ℕ) (f : ℕ → ℕ → Float) (a o e : ℕ) (v ys : List Float) (less : a < p) (start : o ≡ a * p) (end : e ≡ o + p) (fits : e ≤ length v) (made : RowLeft a (f a) (mid_of o (e - o) v) ys) where
  ys_long : length ys ≡ p
  ys_long = made.len ∙ mid_len o e v fits ∙ omega arith

  wrote : Wrote o p ys v (put_mid o (e - o) v ys)
  wrote = part_wrote o p e v ys end fits ys_long

  pub rows_long : length (put_mid o (e - o) v ys) ≡ length v
  rows_long = wrote.only.len

  -- the rows before row a are as they were
  pub rows_more : ((i j : ℕ) → i < a → j ≤ i → at p v i j ≡ f i j) → (i j : ℕ) → i < a + 1 → j ≤ i → at p (put_mid o (e - o) v ys) i j ≡ f i j
  rows_more had i j l m = ⊎_elim earlier here (lt_or_ge i a)
    where
      earlier : i < a → at p (put_mid o (e - o) v ys) i j ≡ f i j
      earlier k = wrote.only.kept (i * p + j) (inl (omega (arith, row_fits i a p k))) ∙ had i j k m

      here : a ≤ i → at p (put_mid o (e - o) v ys) i j ≡ f i j
      here k =
          let same : i ≡ a = omega arith in
          let below : j < p = omega arith in
          let placed : put_mid o (e - o) v ys ! (o + j) ≡ ys ! j =
          sym (row_at o p (put_mid o (e - o) v ys) (omega (arith, wrote.only.len)) j below) ∙ ap (λ (y : List Float). y ! j) wrote.row' in
          rw (same, ← start) (placed ∙ made.below j (omega arith))
