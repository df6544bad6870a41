-- A merge of two rising rows adds up just what both store: a cut parts the columns that both cursors have passed from the others. Assumes nothing.
use mathlib.Core.Path.{◌≡◌, refl, ap, ◌∙◌}
use mathlib.Core.List.{List}
use mathlib.Core.Logic.{⊎_elim, ◌⊎◌}
use mathlib.Core.Bool.{true, false, ◌&&◌, and-false}
use Prim.Native.Nat.{ℕ, ◌+◌, ◌<◌, ◌≤◌}
use native.Mathlib.Omega.{arith}
use lib.Ieee.{Float}
use Rattle.base.specs.Number.{◌⊕◌, ◌⊗◌, zero_f}
use Rattle.base.specs.Sum.{◌!◌, ◌!!◌, sum_where}
use Rattle.base.specs.Sparse.{Rising, Rows, Sparse, stored, stored_in, value_at, both_sum}
use Rattle.base.proofs.Sums.{where_none, where_take, where_gap}
use Rattle.base.proofs.SparseRows.{stored_entry, value_entry}
use Rattle.stored.proofs.Parted.{Parted, parted_none, passed, raised, between}
use Rattle.stored.specs.Stored.{weighted_term}

-- the cursors stand at i and j, and the sum is over the columns below the cut
pub record Merged (Z : Sparse) (n a b : ℕ) (f : ℕ → Float) (i j : ℕ) (sum : Float) : Type 0 where
  pub cut : ℕ
  pub bound : cut ≤ n
  pub first : Parted Z.columns (Z.starts !! a) (Z.starts !! (a + 1)) i cut
  pub second : Parted Z.columns (Z.starts !! b) (Z.starts !! (b + 1)) j cut
  pub made : sum ≡ sum_where cut (λ k. stored Z a k && stored Z b k) f

module _ (Z : Sparse) (n a b : ℕ) (f : ℕ → Float)
    (r : Rising Z.columns n (Z.starts !! a) (Z.starts !! (a + 1)))
    (s : Rising Z.columns n (Z.starts !! b) (Z.starts !! (b + 1))) where
  pub merge_none : Merged Z n a b f (Z.starts !! a) (Z.starts !! b) zero_f
  merge_none = record { cut = 0; bound = omega arith; first = parted_none r; second = parted_none s; made = where_none _ f }

  first_none : (i : ℕ) → stored_in Z.columns (Z.starts !! a) (Z.starts !! (a + 1)) i ≡ false → stored Z a i && stored Z b i ≡ false
  unfolding stored
  first_none i h = rw h refl

  second_none : (i : ℕ) → stored_in Z.columns (Z.starts !! b) (Z.starts !! (b + 1)) i ≡ false → stored Z a i && stored Z b i ≡ false
  unfolding stored
  second_none i h = rw h (and-false (stored Z a i))

  module _ {i j : ℕ} {sum : Float} (m : Merged Z n a b f i j sum) where
    -- the first row's column is the smaller
    pub merge_first : i < Z.starts !! (a + 1) → j < Z.starts !! (b + 1) → Z.columns !! i < Z.columns !! j → Merged Z n a b f (i + 1) j sum
    merge_first l g h =
        let low : m.cut ≤ Z.columns !! i = m.first.after i (omega arith) l in
        let top : Z.columns !! i < n = r.below i m.first.start l in
        record {
          cut = Z.columns !! i + 1;
          bound = omega arith;
          first = passed r m.first l;
          second = raised s m.second (Z.columns !! i + 1) (omega arith) g (omega arith);
          made = m.made ∙ where_gap _ f m.cut (Z.columns !! i + 1) (omega arith) (λ k p q. second_none k (between s m.second k p (λ g'. omega arith)));
        }

    -- the second row's is
    pub merge_second : i < Z.starts !! (a + 1) → j < Z.starts !! (b + 1) → Z.columns !! j < Z.columns !! i → Merged Z n a b f i (j + 1) sum
    merge_second l g h =
        let low : m.cut ≤ Z.columns !! j = m.second.after j (omega arith) g in
        let top : Z.columns !! j < n = s.below j m.second.start g in
        record {
          cut = Z.columns !! j + 1;
          bound = omega arith;
          first = raised r m.first (Z.columns !! j + 1) (omega arith) l (omega arith);
          second = passed s m.second g;
          made = m.made ∙ where_gap _ f m.cut (Z.columns !! j + 1) (omega arith) (λ k p q. first_none k (between r m.first k p (λ g'. omega arith)));
        }

    shared : i < Z.starts !! (a + 1) → j < Z.starts !! (b + 1) → Z.columns !! i ≡ Z.columns !! j → stored Z a (Z.columns !! i) && stored Z b (Z.columns !! i) ≡ true
    unfolding stored
    shared l g h =
        let hit : stored_in Z.columns (Z.starts !! b) (Z.starts !! (b + 1)) (Z.columns !! i) ≡ true = rw h (stored_entry s j m.second.start g) in
        rw (stored_entry r i m.first.start l, hit) refl

    -- both rows store the column
    pub merge_both : i < Z.starts !! (a + 1) → j < Z.starts !! (b + 1) → Z.columns !! i ≡ Z.columns !! j → Merged Z n a b f (i + 1) (j + 1) (sum ⊕ f (Z.columns !! i))
    merge_both l g h =
        let low : m.cut ≤ Z.columns !! i = m.first.after i (omega arith) l in
        let top : Z.columns !! i < n = r.below i m.first.start l in
        record {
          cut = Z.columns !! i + 1;
          bound = omega arith;
          first = passed r m.first l;
          second = rw h (passed s m.second g);
          made = where_take _ f (Z.columns !! i) sum (shared l g h) (m.made ∙ where_gap _ f m.cut (Z.columns !! i) low (λ k p q. first_none k (between r m.first k p (λ g'. omega arith))));
        }

    -- one of the rows has ended
    pub merge_end : (Z.starts !! (a + 1) ≤ i) ⊎ (Z.starts !! (b + 1) ≤ j) → sum ≡ both_sum Z n a b f
    unfolding both_sum
    merge_end h =
        m.made
        ∙ where_gap _ f m.cut n m.bound
        (λ k p q. ⊎_elim
        (λ (e : Z.starts !! (a + 1) ≤ i). first_none k (between r m.first k p (λ g. absurd (omega arith))))
        (λ (e : Z.starts !! (b + 1) ≤ j). second_none k (between s m.second k p (λ g. absurd (omega arith))))
        h)

-- what the entries at i and j, which are of one column, add
pub weighted_entry : (Z : Sparse) (rows n : ℕ) (w : List Float) (a b i j : ℕ) → Rows Z.starts Z.columns Z.values rows n → a < rows → b < rows
    → Z.starts !! a ≤ i → i < Z.starts !! (a + 1) → Z.starts !! b ≤ j → j < Z.starts !! (b + 1) → Z.columns !! i ≡ Z.columns !! j
    → weighted_term Z w a b (Z.columns !! i) ≡ ((Z.values ! i) ⊗ (Z.values ! j)) ⊗ (w ! (Z.columns !! i))
unfolding weighted_term
weighted_entry Z rows n w a b i j v l m p q p' q' e =
    rw (value_entry Z rows n a v l i p q, ap (λ (c : ℕ). value_at Z b c) e ∙ value_entry Z rows n b v m j p' q') refl
