-- Columns that stand one behind the other, each changed by itself: one more of them, one change after another, and one entry of each by a rule. Assumes nothing.
use mathlib.Core.Path.{◌≡◌, refl, sym, ap, ◌∙◌}
use mathlib.Core.List.{List}
use mathlib.Core.Bool.{Bool, true, ◌&&◌}
use mathlib.Core.Logic.{inr, ⊎_elim}
use Prim.Native.Nat.{ℕ, suc, ◌+◌, ◌-◌, ◌*◌, ◌<◌, ◌≤◌}
use native.Mathlib.Nat.{eq-or-lt_of_le}
use native.Mathlib.Numerals.{add-one}
use native.Mathlib.Omega.{arith}
use lib.ListN.{length}
use lib.Seq.{get_or-set_other, ext_get_or}
use lib.Ieee.{Float, nan}
use borrow.Rule.Slice.PartMut.{put_mid, mid_of, mid_len}
use Rattle.base.specs.Number.{finite}
use Rattle.base.specs.Sum.{◌!◌, all_to}
use Rattle.base.specs.List.{at, grid_to}
use Rattle.base.specs.Rows.{row, Only}
use Rattle.base.specs.InPlace.{Rule, ruled, fill_by, fill_down}
use Rattle.base.proofs.Sums.{last_or_before, and_true, all_at}
use Rattle.base.proofs.InPlace.{length_by, length_down, down_step}
use Rattle.base.proofs.Fills.{row_fits, grid_in, grid_past, grid_is, length_grid}
use Rattle.base.proofs.Rows.{row_length, row_at, part_is, part_wrote, only_row, only_wide, only_trans, grid_wrote}
use Rattle.factor.specs.Sides.{changed_at, column_at, each_column, Entered, RowEntered}
use Rattle.factor.proofs.Columns.{grid_part}

-- ---- the columns
module _ (h : List Float → List Float) (s n : ℕ) (b : List Float) (fits : n * s ≤ length b) where
  pub each_at : (a k : ℕ) → a < n → k < s → at s (each_column h s n b) a k ≡ column_at h s b a k
  unfolding each_column
  each_at a k l m = grid_in n s (column_at h s b) b fits a k l m

  pub each_length : length (each_column h s n b) ≡ length b
  unfolding each_column
  each_length = length_grid n s (column_at h s b) b

  each_past : (t : ℕ) → n * s ≤ t → each_column h s n b ! t ≡ b ! t
  unfolding each_column
  each_past t l = grid_past n s (column_at h s b) b t l

  each_row : ((c : List Float) → length (h c) ≡ length c) → (a : ℕ) → a < n → row (a * s) s (each_column h s n b) ≡ h (row (a * s) s b)
  unfolding column_at
  each_row keeps a l =
      let old : a * s + s ≤ length b = omega (arith, row_fits a n s l) in
      let new : a * s + s ≤ length (each_column h s n b) = omega (arith, each_length) in
      ext_get_or nan (row (a * s) s (each_column h s n b)) (h (row (a * s) s b)) (row_length (a * s) s (each_column h s n b) new ∙ sym (keeps (row (a * s) s b) ∙ row_length (a * s) s b old))
      (λ k m.
      let m' : k < s = omega (arith, row_length (a * s) s (each_column h s n b) new) in
      row_at (a * s) s (each_column h s n b) new k m' ∙ each_at a k l m')

-- no column yet
pub each_first : (h : List Float → List Float) (s : ℕ) (b : List Float) → b ≡ each_column h s 0 b
unfolding each_column grid_to
each_first h s b = refl

-- no change
pub each_none : (h : List Float → List Float) (s n : ℕ) (b : List Float) → n * s ≤ length b → ((c : List Float) → h c ≡ c) → b ≡ each_column h s n b
unfolding each_column column_at
each_none h s n b fits same =
    grid_is n s (column_at h s b) b b fits refl
    (λ a j l m. sym (ap (λ (c : List Float). c ! j) (same (row (a * s) s b)) ∙ row_at (a * s) s b (omega (arith, row_fits a n s l)) j m))
    (λ t l. refl)

-- one change after another
pub each_then : (h k m : List Float → List Float) (s n : ℕ) (b Y Z : List Float) → n * s ≤ length b → ((c : List Float) → length (k c) ≡ length c) → ((c : List Float) → m c ≡ h (k c))
    → Y ≡ each_column k s n b → Z ≡ each_column h s n Y → Z ≡ each_column m s n b
unfolding each_column column_at
each_then h k m s n b Y Z fits keeps same eY eZ = is
  where
    long : length Y ≡ length b
    long = ap length eY ∙ each_length k s n b fits

    room : n * s ≤ length Y
    room = omega (arith, long)

    column : (a : ℕ) → a < n → row (a * s) s Y ≡ k (row (a * s) s b)
    column a l = ap (λ (w : List Float). row (a * s) s w) eY ∙ each_row k s n b fits keeps a l

    inside : (a j : ℕ) → a < n → j < s → at s Z a j ≡ column_at m s b a j
    inside a j l q =
        ap (λ (w : List Float). at s w a j) eZ ∙ each_at h s n Y room a j l q
        ∙ ap (λ (c : List Float). h c ! j) (column a l)
        ∙ ap (λ (c : List Float). c ! j) (sym (same (row (a * s) s b)))

    past : (t : ℕ) → n * s ≤ t → Z ! t ≡ b ! t
    past t l =
        ap (λ (w : List Float). w ! t) eZ ∙ each_past h s n Y room t l ∙ ap (λ (w : List Float). w ! t) eY ∙ each_past k s n b fits t l

    is : Z ≡ each_column m s n b
    is = grid_is n s (column_at m s b) b Z fits (ap length eZ ∙ each_length h s n Y room ∙ long) inside past

-- ---- one column more, lent as the part from o to e
module _ (s a : ℕ) (b X : List Float) (o e : ℕ) (only : Only 0 (a * s) b X) (eo : o ≡ a * s) (ee : e ≡ o + s) (fits : e ≤ length X) where
  -- it is as it was
  pub part_before : mid_of o (e - o) X ≡ row (a * s) s b
  part_before = part_is o s e X ee ∙ rw eo (only_row (a * s) s 0 (a * s) (inr (omega arith)) (omega (arith, only.len)) only)

  -- nothing behind it changes
  pub part_only : (ys : List Float) → length ys ≡ length (mid_of o (e - o) X) → Only 0 ((a + 1) * s) b (put_mid o (e - o) X ys)
  part_only ys k =
      let l : length ys ≡ s = k ∙ mid_len o e X fits ∙ omega arith in
      only_trans (only_wide 0 (a * s) 0 ((a + 1) * s) (omega arith) (omega arith) only)
      (only_wide o s 0 ((a + 1) * s) (omega arith) (omega (arith)) (part_wrote o s e X ys ee fits l).only)

-- h of it
pub changed_part : (h : ℕ → List Float → List Float) (s a : ℕ) (b X ys : List Float) (o e : ℕ) → X ≡ grid_to a s (changed_at h s b) b → o ≡ a * s → e ≡ o + s → e ≤ length X
    → length ys ≡ length (mid_of o (e - o) X) → ys ≡ h a (mid_of o (e - o) X) → put_mid o (e - o) X ys ≡ grid_to (a + 1) s (changed_at h s b) b
unfolding changed_at
changed_part h s a b X ys o e eX eo ee fits k q =
    let long : length X ≡ length b = ap length eX ∙ length_grid a s (changed_at h s b) b in
    let only : Only 0 (a * s) b X = rw eX (grid_wrote a s (changed_at h s b) b (omega (arith, long))).only in
    grid_part a s (changed_at h s b) b X ys (h a (mid_of o (e - o) X)) o e eX eo ee fits k q (λ i m. ap (λ (c : List Float). h a c ! i) (part_before s a b X o e only eo ee fits))

-- the same change h of every column
pub each_changed : (h : List Float → List Float) (s n : ℕ) (b X : List Float) → X ≡ grid_to n s (changed_at (λ a c. h c) s b) b → X ≡ each_column h s n b
unfolding each_column column_at changed_at
each_changed h s n b X e = e

-- ---- one entry of each column by a rule

-- of no column
pub entered_none : (g : Rule) (i s : ℕ) (b : List Float) → RowEntered g i s 0 b true b
unfolding all_to
entered_none g i s b = record { list = each_first (ruled g i) s b; fine = refl }

-- and of the next one
pub entered_part : (g : Rule) (i s a : ℕ) (b X ys : List Float) (o e : ℕ) (t r : Bool) → Only 0 (a * s) b X → o ≡ a * s → e ≡ o + s → e ≤ length X → length ys ≡ length (mid_of o (e - o) X)
    → Entered g i (mid_of o (e - o) X) r ys → RowEntered g i s a b t X → RowEntered g i s (a + 1) b (t && r) (put_mid o (e - o) X ys)
unfolding all_to column_at each_column changed_at
entered_part g i s a b X ys o e t r only eo ee fits k made so =
    let last : r ≡ finite (ruled g i (row (a * s) s b) ! i) =
    made.fine ∙ ap (λ (c : List Float). finite (c ! i)) (made.list ∙ ap (ruled g i) (part_before s a b X o e only eo ee fits)) in
    record { list = changed_part (λ d c. ruled g i c) s a b X ys o e so.list eo ee fits k made.list; fine = rw (so.fine, last, add-one) refl }

module _ (g : Rule) (i s n : ℕ) (b X : List Float) (r : Bool) (fits : n * s ≤ length b) (made : RowEntered g i s n b r X) where
  -- the other entries are as they were
  entered_other : (a k : ℕ) → a < n → k < s → (k ≡ i → ⊥) → at s X a k ≡ at s b a k
  unfolding column_at ruled
  entered_other a k l m apart =
      ap (λ (w : List Float). at s w a k) made.list ∙ each_at (ruled g i) s n b fits a k l m
      ∙ get_or-set_other (row (a * s) s b) i k _ nan apart ∙ row_at (a * s) s b (omega (arith, row_fits a n s l)) k m

  entered_here : i < s → true ≡ r → (a : ℕ) → a < n → finite (at s X a i) ≡ true
  entered_here m q a l =
      ap finite (ap (λ (w : List Float). at s w a i) made.list ∙ each_at (ruled g i) s n b fits a i l m)
      ∙ all_at (λ c. finite (column_at (ruled g i) s b c i)) n (q ∙ made.fine) a l

  -- where all entries before the row are finite, and its own, all before the next one are
  pub fine_up : (t u : Bool) → i < s → u ≡ (t && r) → (t ≡ true → (a k : ℕ) → a < n → k < i → finite (at s b a k) ≡ true) → u ≡ true → (a k : ℕ) → a < n → k < i + 1 → finite (at s X a k) ≡ true
  fine_up t u m q so v a k l w =
      let p : (true ≡ t) × (true ≡ r) = and_true t r (sym (sym q ∙ v)) in
      let w' : k < suc i = omega arith in
      ⊎_elim (λ (y : k ≡ i). rw y (entered_here m p.1 a l)) (λ (y : k < i). ap finite (entered_other a k l (omega arith) (λ z. omega arith)) ∙ so (sym p.0) a k l y) (last_or_before w')

  -- the same behind it
  pub fine_down : (t u : Bool) → i < s → u ≡ (t && r) → (t ≡ true → (a k : ℕ) → a < n → i < k → k < s → finite (at s b a k) ≡ true) → u ≡ true → (a k : ℕ) → a < n → i ≤ k → k < s → finite (at s X a k) ≡ true
  fine_down t u m q so v a k l w y =
      let p : (true ≡ t) × (true ≡ r) = and_true t r (sym (sym q ∙ v)) in
      ⊎_elim (λ (z : i ≡ k). rw (← z) (entered_here m p.1 a l)) (λ (z : i < k). ap finite (entered_other a k l y (λ f. omega arith)) ∙ so (sym p.0) a k l z y) (eq-or-lt_of_le w)

-- ---- row after row
pub each_up : (g : Rule) (i s n : ℕ) (b Y Z : List Float) → n * s ≤ length b → Y ≡ each_column (fill_by g i) s n b → Z ≡ each_column (ruled g i) s n Y → Z ≡ each_column (fill_by g (i + 1)) s n b
unfolding fill_by
each_up g i s n b Y Z fits eY eZ = each_then (ruled g i) (fill_by g i) (fill_by g (i + 1)) s n b Y Z fits (λ c. length_by g i c) (λ c. rw (add-one i) refl) eY eZ

pub each_down : (g : Rule) (i s n j : ℕ) (b Y Z : List Float) → n * s ≤ length b → j ≡ i + 1 → i < s → Y ≡ each_column (fill_down g s (s - j)) s n b → Z ≡ each_column (ruled g i) s n Y → Z ≡ each_column (fill_down g s (s - i)) s n b
unfolding ruled
each_down g i s n j b Y Z fits q l eY eZ =
    each_then (ruled g i) (fill_down g s (s - j)) (fill_down g s (s - i)) s n b Y Z fits (λ c. length_down g s (s - j) c) (λ c. rw q (sym (down_step g s i c (fill_down g s (s - (i + 1)) c) l refl))) eY eZ
