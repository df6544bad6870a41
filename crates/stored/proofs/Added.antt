-- Row after row added to a wiped list makes Zb: the columns that a row's cursor has passed lie below a cut, and the list is filled up to it. Assumes nothing.
use mathlib.Core.Path.{◌≡◌, refl, sym, ap, ◌∙◌}
use mathlib.Core.List.{List}
use mathlib.Core.Logic.{⊎_elim}
use Prim.Native.Nat.{ℕ, ◌+◌, ◌<◌, ◌≤◌}
use native.Mathlib.Numerals.{add-one}
use native.Mathlib.Omega.{arith}
use lib.ListN.{length, set}
use lib.Ieee.{Float}
use Rattle.base.specs.Number.{◌⊕◌, ◌⊗◌}
use Rattle.base.specs.Sum.{◌!◌, ◌!!◌, add_where, sum_where}
use Rattle.base.specs.List.{zero_at, fill_to}
use Rattle.base.specs.Sparse.{Rising, Rows, Sparse, stored}
use Rattle.base.proofs.Sums.{lt_or_ge}
use Rattle.base.proofs.Fills.{fill_none, fill_step, fill_in, fill_past, fill_is, fill_over, length_fill}
use Rattle.base.proofs.SparseRows.{stored_entry, value_entry}
use Rattle.stored.specs.Stored.{effect_term, z_times_at, added_at}
use Rattle.stored.proofs.Parted.{Parted, parted_none, passed, between}

-- where the rule keeps what was there, one may fill further
fill_on : (k m : ℕ) (f : ℕ → Float) (v : List Float) → k ≤ m → m ≤ length v → ((i : ℕ) → k ≤ i → i < m → f i ≡ v ! i) → fill_to k f v ≡ fill_to m f v
fill_on k m f v l h kept =
    fill_is m f v (fill_to k f v) h (length_fill k f v)
    (λ i g. ⊎_elim (λ (a : i < k). fill_in k f v (omega arith) i a) (λ (a : k ≤ i). fill_past k f v i a ∙ sym (kept i a g)) (lt_or_ge i k))
    (λ i g. fill_past k f v i (omega arith))

-- ---- within row a: the cursor stands at k, v is the list before the row and w the list now
pub record RowAdded (Z : Sparse) (b : List Float) (n a : ℕ) (v : List Float) (k : ℕ) (w : List Float) : Type 0 where
  pub cut : ℕ
  pub bound : cut ≤ n
  pub parted : Parted Z.columns (Z.starts !! a) (Z.starts !! (a + 1)) k cut
  pub filled : w ≡ fill_to cut (added_at Z b a v) v

module _ (Z : Sparse) (rows n : ℕ) (b : List Float) (a : ℕ) (v : List Float) (r : Rows Z.starts Z.columns Z.values rows n) (l : a < rows) (h : n ≤ length v) where
  row : Rising Z.columns n (Z.starts !! a) (Z.starts !! (a + 1))
  row = r.each a l

  pub added_none : RowAdded Z b n a v (Z.starts !! a) v
  added_none = record { cut = 0; bound = omega arith; parted = parted_none row; filled = fill_none _ v }

  module _ {k : ℕ} {w : List Float} (p : RowAdded Z b n a v k w) where
    -- up to the cursor's column nothing is added
    upto : (m : ℕ) → p.cut ≤ m → m ≤ n → (k < Z.starts !! (a + 1) → m ≤ Z.columns !! k) → w ≡ fill_to m (added_at Z b a v) v
    unfolding added_at add_where stored
    upto m g q under = p.filled ∙ fill_on p.cut m (added_at Z b a v) v g (omega arith) (λ i c e. rw (between row p.parted i c (λ d. let u : m ≤ Z.columns !! k = under d in omega arith)) refl)

    -- at it the entry is
    at_entry : k < Z.starts !! (a + 1) → (w ! (Z.columns !! k)) ⊕ ((Z.values ! k) ⊗ (b ! a)) ≡ added_at Z b a v (Z.columns !! k)
    unfolding added_at add_where stored effect_term
    at_entry q =
        let low : p.cut ≤ Z.columns !! k = p.parted.after k (omega arith) q in
        rw (stored_entry row k p.parted.start q, value_entry Z rows n a r l k p.parted.start q)
        (ap (λ (x : Float). x ⊕ ((Z.values ! k) ⊗ (b ! a))) (ap (λ (x : List Float). x ! (Z.columns !! k)) p.filled ∙ fill_past p.cut (added_at Z b a v) v (Z.columns !! k) low))

    pub added_step : k < Z.starts !! (a + 1) → RowAdded Z b n a v (k + 1) (set w (Z.columns !! k) ((w ! (Z.columns !! k)) ⊕ ((Z.values ! k) ⊗ (b ! a))))
    added_step q =
        let low : p.cut ≤ Z.columns !! k = p.parted.after k (omega arith) q in
        let top : Z.columns !! k < n = row.below k p.parted.start q in
        record {
          cut = Z.columns !! k + 1;
          bound = omega arith;
          parted = passed row p.parted q;
          filled = rw (at_entry q) (fill_step (added_at Z b a v) v (Z.columns !! k) w (upto (Z.columns !! k) low (omega arith) (λ d. omega arith)));
        }

    pub added_end : Z.starts !! (a + 1) ≤ k → w ≡ fill_to n (added_at Z b a v) v
    added_end q = upto n p.bound (omega arith) (λ d. absurd (omega arith))

-- ---- row after row
pub rows_none : (Z : Sparse) (n : ℕ) (b v w : List Float) → n ≤ length v → w ≡ fill_to n zero_at v → w ≡ fill_to n (z_times_at Z 0 b) w
unfolding z_times_at sum_where
rows_none Z n b v w h e = rw e (sym (fill_over n zero_at zero_at v h))

where_more : (Z : Sparse) (b : List Float) (a i : ℕ) → add_where (stored Z a i) (z_times_at Z a b i) (effect_term Z b i a) ≡ z_times_at Z (a + 1) b i
unfolding z_times_at sum_where
where_more Z b a i = rw (add-one a) refl

pub rows_step : (Z : Sparse) (n : ℕ) (b : List Float) (a : ℕ) (v w x : List Float) → n ≤ length v → w ≡ fill_to n (z_times_at Z a b) v → x ≡ fill_to n (added_at Z b a w) w → x ≡ fill_to n (z_times_at Z (a + 1) b) v
unfolding added_at
rows_step Z n b a v w x h e q =
    fill_is n (z_times_at Z (a + 1) b) v x h (ap length q ∙ length_fill n (added_at Z b a w) w ∙ len)
    (λ i l. ap (λ (y : List Float). y ! i) q ∙ fill_in n (added_at Z b a w) w (omega (arith, len)) i l
    ∙ ap (λ (y : Float). add_where (stored Z a i) y (effect_term Z b i a)) (ap (λ (y : List Float). y ! i) e ∙ fill_in n (z_times_at Z a b) v h i l)
    ∙ where_more Z b a i)
    (λ i l. ap (λ (y : List Float). y ! i) q ∙ fill_past n (added_at Z b a w) w i l ∙ ap (λ (y : List Float). y ! i) e ∙ fill_past n (z_times_at Z a b) v i l)
  where
    len : length w ≡ length v
    len = ap length e ∙ length_fill n (z_times_at Z a b) v

-- v being the list before it was wiped, w after
pub rows_end : (Z : Sparse) (n rows : ℕ) (b : List Float) (a : ℕ) (v w x : List Float) → n ≤ length v → a ≤ rows → rows ≤ a → w ≡ fill_to n zero_at v → x ≡ fill_to n (z_times_at Z a b) w → x ≡ fill_to n (z_times_at Z rows b) v
rows_end Z n rows b a v w x h l m q e = let z : a ≡ rows = omega arith in rw (← z) (e ∙ rw q (fill_over n (z_times_at Z a b) zero_at v h))
