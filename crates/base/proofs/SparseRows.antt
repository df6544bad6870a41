-- Laws of sparse rows: the tests and the facts of number 6, and sums over what rows store. Assumes nothing.
use mathlib.Core.Path.{◌≡◌, refl, sym, ap, ◌∙◌}
use mathlib.Core.List.{List}
use mathlib.Core.Logic.{⊎_elim}
use mathlib.Core.Bool.{Bool, true, false, ◌&&◌, ◌||◌, cond}
use Prim.Native.Nat.{ℕ, zero, suc, ◌+◌, ◌-◌, ◌<◌, ◌≤◌}
use native.Mathlib.Nat.{add-zero, le_refl, not-suc-le-zero, eq-or-lt_of_le}
use native.Mathlib.Omega.{arith}
use borrow.Author.Tests.{eq-eqb, ne_eqb, eqb-true, leb-true, ltb-true}
use lib.Dec.{ltb, eqb}
use lib.ListN.{length}
use lib.Ieee.{Float}
use Rattle.base.specs.Sum.{◌!◌, ◌!!◌, sum_from, sum_where, all_to}
use Rattle.base.specs.Sparse.{not_falling, good_starts, column_fits, good_columns, good_row, good_rows, Rising, Rows, stored_in, find_to, place_in, Sparse, stored, value_at, row_sum}
use Rattle.base.proofs.Sums.{lt_or_ge, last_or_before, from_none, from_step, where_none, where_take, where_gap, all_at, any_at, any_none, and_true}

-- the last number that passes the test is found
pub find_last : (t : ℕ → Bool) (n k : ℕ) → k < n → t k ≡ true → ((j : ℕ) → k < j → j < n → t j ≡ false) → find_to n t ≡ k
unfolding find_to
find_last t zero k l h f = absurd (not-suc-le-zero l)
find_last t (suc n) k l h f =
    ⊎_elim
    (λ (q : k ≡ n). let h' : t n ≡ true = rw q at h in rw h' (sym q))
    (λ (m : k < n). rw (f n m (omega arith)) (find_last t n k m h (λ j a c. f j a (omega arith))))
    (last_or_before l)

-- what holds of each of two numbers where it is picked holds of the one picked
picked : (P : ℕ → Type 0) (b : Bool) (x y : ℕ) → (b ≡ true → P x) → (b ≡ false → P y) → P (cond b x y)
picked P true x y f g = f refl
picked P false x y f g = g refl

-- what is found passes the test, where the first number does
pub find_holds : (t : ℕ → Bool) (n : ℕ) → t 0 ≡ true → t (find_to n t) ≡ true
unfolding find_to
find_holds t zero h = h
find_holds t (suc n) h = picked (λ k. t k ≡ true) (t n) n (find_to n t) (λ e. e) (λ e. find_holds t n h)

-- and no larger number does
pub find_past : (t : ℕ → Bool) (n k : ℕ) → find_to n t < k → k < n → t k ≡ false
unfolding find_to
find_past t zero k l m = absurd (not-suc-le-zero m)
find_past t (suc n) k l m =
    picked (λ j. j < k → t k ≡ false) (t n) n (find_to n t) (λ e g. absurd (omega arith))
    (λ e g. ⊎_elim (λ (q : k ≡ n). rw q e) (λ (h : k < n). find_past t n k g h) (last_or_before m)) l

find_most : (t : ℕ → Bool) (n : ℕ) → find_to n t ≤ n
unfolding find_to
find_most t zero = omega arith
find_most t (suc n) = picked (λ k. k ≤ suc n) (t n) n (find_to n t) (λ e. omega arith) (λ e. omega (arith, find_most t n))

-- it is one of the n numbers
pub find_below : (t : ℕ → Bool) (n : ℕ) → 0 < n → find_to n t < n
unfolding find_to
find_below t zero l = absurd (not-suc-le-zero l)
find_below t (suc n) l = picked (λ k. k < suc n) (t n) n (find_to n t) (λ e. omega arith) (λ e. omega (arith, find_most t n))

-- ---- a rising row
module _ {columns : List ℕ} {n b e : ℕ} (r : Rising columns n b e) where
  -- d steps on, the column is larger
  climbs : (d k : ℕ) → b ≤ k → k + suc d < e → columns !! k < columns !! (k + suc d)
  climbs zero k l h = let q : k + 1 ≡ k + suc zero = omega arith in rw (← q) (r.above k l (omega arith))
  climbs (suc d) k l h =
      let here : columns !! k < columns !! (k + suc d) = climbs d k l (omega arith) in
      let next : columns !! (k + suc d) < columns !! (k + suc d + 1) = r.above (k + suc d) (omega arith) (omega arith) in
      let q : k + suc d + 1 ≡ k + suc (suc d) = omega arith in
      let next' : columns !! (k + suc d) < columns !! (k + suc (suc d)) = rw q at next in
      omega arith

  -- a later entry has a larger column
  pub later_above : (j k : ℕ) → b ≤ j → j < k → k < e → columns !! j < columns !! k
  later_above j k l m h =
      let q : j + suc (k - (j + 1)) ≡ k = omega arith in
      rw q at (climbs (k - (j + 1)) j l (omega arith))

  -- and none a smaller one
  pub later_or_same : (j k : ℕ) → b ≤ j → j ≤ k → k < e → columns !! j ≤ columns !! k
  later_or_same j k l m h =
      ⊎_elim (λ (q : j ≡ k). rw q (le_refl _)) (λ (g : j < k). let a : columns !! j < columns !! k = later_above j k l g h in omega arith) (eq-or-lt_of_le m)

  -- what the row stores: each of its columns
  pub stored_entry : (k : ℕ) → b ≤ k → k < e → stored_in columns b e (columns !! k) ≡ true
  unfolding stored_in
  stored_entry k l h =
      any_at (λ t. eqb (columns !! (b + t)) (columns !! k)) (e - b) (k - b) (omega arith)
      (let q : b + (k - b) ≡ k = omega arith in eq-eqb _ _ (ap (λ (j : ℕ). columns !! j) q))

  -- and no other
  pub stored_none : (i : ℕ) → ((k : ℕ) → b ≤ k → k < e → columns !! k ≡ i → ⊥) → stored_in columns b e i ≡ false
  unfolding stored_in
  stored_none i h = any_none _ (e - b) (λ t l. ne_eqb (columns !! (b + t)) i (h (b + t) (omega arith) (omega arith)))

  -- the place of a column that the row stores is that of its entry
  pub place_entry : (k : ℕ) → b ≤ k → k < e → place_in columns b e (columns !! k) ≡ k
  unfolding place_in
  place_entry k l h =
      let q : b + (k - b) ≡ k = omega arith in
      ap (λ (j : ℕ). b + j)
      (find_last (λ t. eqb (columns !! (b + t)) (columns !! k)) (e - b) (k - b) (omega arith) (eq-eqb _ _ (ap (λ (j : ℕ). columns !! j) q))
      (λ j a c. let m : columns !! k < columns !! (b + j) = later_above k (b + j) l (omega arith) (omega arith) in ne_eqb (columns !! (b + j)) (columns !! k) (λ z. omega arith)))
      ∙ q

-- ---- a sum over the columns that a test picks is the sum over the row's entries, where the test picks just the row's columns
module _ {columns : List ℕ} {n b e : ℕ} (r : Rising columns n b e) (t : ℕ → Bool) (f : ℕ → Float)
    (hit : (k : ℕ) → b ≤ k → k < e → t (columns !! k) ≡ true)
    (miss : (i : ℕ) → ((k : ℕ) → b ≤ k → k < e → columns !! k ≡ i → ⊥) → t i ≡ false) where
  -- the columns below m are those of the entries before b + d
  sum_parted : (d m : ℕ) → b + d ≤ e
      → ((k : ℕ) → b ≤ k → k < b + d → columns !! k < m)
      → ((k : ℕ) → b + d ≤ k → k < e → m ≤ columns !! k)
      → sum_where m t f ≡ sum_from b (b + d) (λ k. f (columns !! k))
  sum_parted zero m h low high =
      sym (where_gap t f 0 m (omega arith) (λ i p q. miss i (λ k l g z. let a : m ≤ columns !! k = high k (omega arith) g in omega arith)))
      ∙ sym (where_none t f) ∙ rw (add-zero b) (from_none b (λ k. f (columns !! k)))
  sum_parted (suc d) m h low high =
      let c : columns !! (b + d) < m = low (b + d) (omega arith) (omega arith) in
      let before : sum_where (columns !! (b + d)) t f ≡ sum_from b (b + d) (λ k. f (columns !! k)) =
      sum_parted d (columns !! (b + d)) (omega arith) (λ k l g. later_above r k (b + d) l g (omega arith)) (λ k l g. later_or_same r (b + d) k (omega arith) l g) in
      let q : b + d + 1 ≡ b + suc d = omega arith in
      sym (where_gap t f (columns !! (b + d) + 1) m (omega arith) (λ i p w. miss i (λ k l g z. apart k i p w l g z)))
      ∙ sym (where_take t f (columns !! (b + d)) (sum_where (columns !! (b + d)) t f) (hit (b + d) (omega arith) (omega arith)) refl)
      ∙ from_step b (λ k. f (columns !! k)) (b + d) (sum_where (columns !! (b + d)) t f) (omega arith) before
      ∙ ap (λ (x : ℕ). sum_from b x (λ k. f (columns !! k))) q
    where
      apart : (k i : ℕ) → columns !! (b + d) + 1 ≤ i → i < m → b ≤ k → k < e → columns !! k ≡ i → ⊥
      apart k i p w l g z =
          ⊎_elim
          (λ (a : k < b + suc d). let x : columns !! k ≤ columns !! (b + d) = later_or_same r k (b + d) l (omega arith) (omega arith) in omega arith)
          (λ (a : b + suc d ≤ k). let x : m ≤ columns !! k = high k a g in omega arith)
          (lt_or_ge k (b + suc d))

  pub sum_entries : sum_where n t f ≡ sum_from b e (λ k. f (columns !! k))
  sum_entries =
      let q : b + (e - b) ≡ e = omega (arith, r.order) in
      sum_parted (e - b) n (omega arith) (λ k l g. r.below k l (omega arith)) (λ k l g. absurd (omega arith)) ∙ ap (λ (x : ℕ). sum_from b x (λ k. f (columns !! k))) q

-- ---- the rows of a matrix
module _ (Z : Sparse) (rows n a : ℕ) (r : Rows Z.starts Z.columns Z.values rows n) (l : a < rows) where
  -- a sum over what a row stores is one over its entries
  pub row_sum_lem : (f : ℕ → Float) → row_sum Z n a f ≡ sum_from (Z.starts !! a) (Z.starts !! (a + 1)) (λ k. f (Z.columns !! k))
  unfolding row_sum stored
  row_sum_lem f = sum_entries (r.each a l) (stored Z a) f (stored_entry (r.each a l)) (stored_none (r.each a l))

  -- with the entry's value
  pub value_entry : (k : ℕ) → Z.starts !! a ≤ k → k < Z.starts !! (a + 1) → value_at Z a (Z.columns !! k) ≡ Z.values ! k
  unfolding value_at
  value_entry k g h = ap (λ (j : ℕ). Z.values ! j) (place_entry (r.each a l) k g h)

-- ---- number 6: what the tests say
module _ (starts : List ℕ) (rows count : ℕ) (h : true ≡ good_starts starts rows count) where
  ends : (true ≡ eqb (starts !! 0) 0 && eqb (starts !! rows) count) × (true ≡ all_to rows (not_falling starts))
  unfolding good_starts
  ends = and_true (eqb (starts !! 0) 0 && eqb (starts !! rows) count) (all_to rows (not_falling starts)) h

  last : starts !! rows ≡ count
  last = eqb-true (starts !! rows) count (sym (and_true (eqb (starts !! 0) 0) (eqb (starts !! rows) count) ends.0).1)

  -- no row begins before the row before it
  pub starts_step : (a : ℕ) → a < rows → starts !! a ≤ starts !! (a + 1)
  unfolding not_falling
  starts_step a l = leb-true (starts !! a) (starts !! (a + 1)) (all_at (not_falling starts) rows ends.1 a l)

  rises : (d a : ℕ) → a + d ≤ rows → starts !! a ≤ starts !! (a + d)
  rises zero a l = rw (add-zero a) (le_refl _)
  rises (suc d) a l =
      let here : starts !! a ≤ starts !! (a + d) = rises d a (omega arith) in
      let q : a + d + 1 ≡ a + suc d = omega arith in
      let next : starts !! (a + d) ≤ starts !! (a + suc d) = rw q at (starts_step (a + d) (omega arith)) in
      omega arith

  -- no row ends past the entry count
  pub starts_within : (a : ℕ) → a ≤ rows → starts !! a ≤ count
  starts_within a l =
      let q : a + (rows - a) ≡ rows = omega arith in
      let up : starts !! a ≤ starts !! rows = rw q at (rises (rows - a) a (omega arith)) in
      omega (arith, last)

-- a row whose columns pass the test is rising
pub columns_rising : (columns : List ℕ) (n b e : ℕ) → b ≤ e → e ≤ length columns → true ≡ good_columns columns n b e → Rising columns n b e
unfolding good_columns column_fits
columns_rising columns n b e l m h = record { order = l; within = m; below = λ k p q. low k p q; above = λ k p q. high k p q }
  where
    each : (t : ℕ) → t < e - b → (true ≡ ltb (columns !! (b + t)) n) × (true ≡ eqb t 0 || ltb (columns !! (b + t - 1)) (columns !! (b + t)))
    each t g = and_true (ltb (columns !! (b + t)) n) (eqb t 0 || ltb (columns !! (b + t - 1)) (columns !! (b + t))) (sym (all_at (column_fits columns n b) (e - b) h t g))

    low : (k : ℕ) → b ≤ k → k < e → columns !! k < n
    low k p q =
        let z : b + (k - b) ≡ k = omega arith in
        rw z at (ltb-true (columns !! (b + (k - b))) n (sym (each (k - b) (omega arith)).0))

    high : (k : ℕ) → b ≤ k → k + 1 < e → columns !! k < columns !! (k + 1)
    high k p q =
        let t = k + 1 - b in
        let z : b + t ≡ k + 1 = omega arith in
        let y : k + 1 - 1 ≡ k = omega arith in
        let some : eqb t 0 ≡ false = ne_eqb t 0 (λ o. omega arith) in
        let above : true ≡ ltb (columns !! (b + t - 1)) (columns !! (b + t)) = rw some at (each t (omega arith)).1 in
        rw (z, y) at (ltb-true (columns !! (b + t - 1)) (columns !! (b + t)) (sym above))

-- a matrix that passes number 6, its lists being as long as the sizes say, has its rows
pub good_rows_lem : (starts columns : List ℕ) (values : List Float) (rows n : ℕ) → length starts ≡ rows + 1 → length columns ≡ length values → true ≡ good_rows starts columns rows n → Rows starts columns values rows n
unfolding good_rows good_row
good_rows_lem starts columns values rows n l m h =
    record { long = l; paired = m; each = λ a g. columns_rising columns n (starts !! a) (starts !! (a + 1)) (starts_step starts rows (length columns) both.0 a g) (starts_within starts rows (length columns) both.0 (a + 1) (omega arith)) (sym (all_at (good_row starts columns n) rows both.1 a g)) }
  where
    both : (true ≡ good_starts starts rows (length columns)) × (true ≡ all_to rows (good_row starts columns n))
    both = and_true (good_starts starts rows (length columns)) (all_to rows (good_row starts columns n)) h
