-- Sums over Λ's entries as the loops have them: those of a column stand behind each other in theta. Assumes nothing.
use mathlib.Core.Path.{◌≡◌, refl, sym, ap, ◌∙◌}
use mathlib.Core.List.{List}
use mathlib.Core.Logic.{⊎_elim}
use mathlib.Core.Bool.{true, false}
use Prim.Native.Nat.{ℕ, ◌+◌, ◌-◌, ◌*◌, ◌<◌, ◌≤◌}
use native.Mathlib.Nat.{add-zero, le_refl}
use native.Mathlib.Omega.{arith}
use borrow.Author.Tests.{le-leb, lt-leb, lt-ltb, le-ltb}
use lib.Dec.{eqb}
use lib.ListN.{length, set, take, drop}
use lib.Ieee.{Float}
use Rattle.base.specs.Number.{◌⊕◌, ◌⊗◌, zero_f, one_f}
use Rattle.base.specs.Sum.{◌!◌, ◌!!◌, sum_to, add_where, sum_where, product_from}
use Rattle.base.specs.List.{zero_at, at, fill_to, fill_at, entry_of}
use Rattle.base.proofs.Sums.{lt_or_ge, sum_cong, where_take, where_skip, where_stretch}
use Rattle.base.proofs.Rows.{part_at}
use Rattle.base.proofs.Fills.{fillat_cong, fillat_step, length_fillat, fillat_below, fillat_above, fillat_in, length_fill, fill_step, fill_past, fill_in, fill_is, fill_over}
use Rattle.model.specs.Shape.{effects_of, InRange}
use Rattle.model.specs.declared.sizes.Shape.{Shape}
use Rattle.lambda.specs.Column.{column_of, is_entry, lambda_at}
use Rattle.lambda.specs.Parts.{is_single, right_by, right_one, system_by, system_one, scaled_at}
use Rattle.lambda.specs.Product.{column_added_at, across_row, down_column, times_term, lambda_times_at, transposed_term, lambda_transposed_at, right_term, right_at, right_column_at, left_term, system_at}
use Rattle.lambda.specs.declared.column.Column.{Column}
use Rattle.lambda.proofs.ColumnPlaces.{column_rows, one_column, single_is}

-- above the diagonal there is no place
pub entry_above : (s : Shape) (i j : ℕ) → i < j → is_entry s i j ≡ false
unfolding is_entry
entry_above s i j l = rw (lt-leb j i l) refl

-- below it there are as many as the column has
pub entry_in : (s : Shape) (j t : ℕ) → t < (column_of s j).count → is_entry s (j + t) j ≡ true
unfolding is_entry
entry_in s j t l = rw (le-leb j (j + t) (omega arith), lt-ltb (j + t) (j + (column_of s j).count) (omega arith)) refl

pub entry_past : (s : Shape) (i j : ℕ) → j + (column_of s j).count ≤ i → is_entry s i j ≡ false
unfolding is_entry
entry_past s i j l = rw (le-leb j i (omega arith), le-ltb i (j + (column_of s j).count) l) refl

-- what stands t rows below the diagonal
pub entry_at : (s : Shape) (theta : List Float) (j t : ℕ) → lambda_at s theta (j + t) j ≡ theta ! ((column_of s j).first + t)
unfolding lambda_at
entry_at s theta j t = let q : j + t - j ≡ t = omega arith in rw q refl

-- a sum down a column
pub column_sum : (s : Shape) (j : ℕ) (f : ℕ → Float) → InRange s → j < effects_of s → down_column s j f ≡ sum_to (column_of s j).count (λ t. f (j + t))
unfolding down_column
column_sum s j f r l =
    where_stretch (λ i. is_entry s i j) f (effects_of s) j (column_of s j).count (column_rows s j r l) (λ k m. entry_above s k j m) (λ k m. entry_in s j k m) (λ k m n. entry_past s k j m)

-- ---- what the loops sum
-- the sum for entry j of Λ'v, whose entries from j on still stand
pub transposed_dot : (s : Shape) (theta v X : List Float) (j m : ℕ) (z : Float) → InRange s → j < effects_of s
    → z ≡ sum_to (column_of s j).count (product_from theta (column_of s j).first (take m (drop j X))) → X ≡ fill_to j (lambda_transposed_at s theta v) v → (column_of s j).count ≤ m
    → z ≡ lambda_transposed_at s theta v j
unfolding lambda_transposed_at transposed_term
transposed_dot s theta v X j m z r l e x h =
    e
    ∙ sum_cong (column_of s j).count _ _ (λ t g. same t g)
    ∙ sym (column_sum s j (transposed_term s theta v j) r l)
  where
    same : (t : ℕ) → t < (column_of s j).count → (theta ! ((column_of s j).first + t)) ⊗ (take m (drop j X) ! t) ≡ lambda_at s theta (j + t) j ⊗ (v ! (j + t))
    same t g =
        rw (part_at j m t X (omega arith), x, fill_past j (lambda_transposed_at s theta v) v (j + t) (omega arith), entry_at s theta j t) refl

-- one row of a column more is added
pub added_step : (theta : List Float) (first : ℕ) (x : Float) (b : List Float) (j t : ℕ) (X : List Float) → X ≡ fill_at j t (column_added_at theta first x b j) b
    → set X (j + t) ((X ! (j + t)) ⊕ ((theta ! (first + t)) ⊗ x)) ≡ fill_at j (t + 1) (column_added_at theta first x b j) b
unfolding column_added_at
added_step theta first x b j t X e =
    let old : X ! (j + t) ≡ b ! (j + t) = rw e (fillat_above j t (column_added_at theta first x b j) b (j + t) (omega arith)) in
    rw old (fillat_step j (column_added_at theta first x b j) b t X e)

-- ---- row by row: what a column of Λ gives, the shape being out of sight
pub right_by_lem : (s : Shape) (theta S : List Float) (c a : ℕ) → InRange s → c < effects_of s → right_by (column_of s c).first (column_of s c).count theta (effects_of s) S c a ≡ right_column_at s theta S c a
unfolding right_by right_at right_term
right_by_lem s theta S c a r l =
    sum_cong (column_of s c).count _ _ (λ t g. ap (λ (x : Float). at (effects_of s) S a (c + t) ⊗ x) (sym (entry_at s theta c t)))
    ∙ sym (column_sum s c (right_term s theta S a c) r l)

pub right_dot : (first count : ℕ) (theta S : List Float) (q c a i m : ℕ) (z : Float) → z ≡ sum_to count (product_from S (i + c) (take m (drop first theta))) → i ≡ a * q → count ≤ m → z ≡ right_by first count theta q S c a
unfolding right_by
right_dot first count theta S q c a i m z e o h =
    e ∙ sum_cong count _ _ (λ t g. let q' : i + c + t ≡ a * q + (c + t) = omega arith in rw (part_at first m t theta (omega arith), q') refl)

pub right_single : (x : Float) (S : List Float) (q c a i : ℕ) → i ≡ a * q → zero_f ⊕ ((S ! (i + c)) ⊗ x) ≡ right_one x q S c a
unfolding right_one
right_single x S q c a i o = rw o refl

-- a column of one number
pub right_one_lem : (first : ℕ) (theta S : List Float) (q c a : ℕ) → right_one (theta ! first) q S c a ≡ right_by first 1 theta q S c a
unfolding right_one right_by sum_to
right_one_lem first theta S q c a = rw (add-zero c, add-zero first) refl

pub system_by_lem : (s : Shape) (theta K : List Float) (a c : ℕ) → InRange s → a < effects_of s → system_by (column_of s a).first (column_of s a).count theta (effects_of s) K a c ≡ system_at s theta K a c
unfolding system_by system_at left_term
system_by_lem s theta K a c r l =
    ap (λ (x : Float). add_where (eqb a c) x one_f)
    (sum_cong (column_of s a).count _ _ (λ t g. ap (λ (x : Float). x ⊗ at (effects_of s) K c (a + t)) (sym (entry_at s theta a t)))
    ∙ sym (column_sum s a (left_term s theta K a c) r l))

pub system_dot : (first count : ℕ) (theta K : List Float) (q a c i m : ℕ) (z : Float) → z ≡ sum_to count (product_from theta first (take m (drop (i + a) K))) → i ≡ c * q → count ≤ m → add_where (eqb a c) z one_f ≡ system_by first count theta q K a c
unfolding system_by
system_dot first count theta K q a c i m z e o h =
    ap (λ (x : Float). add_where (eqb a c) x one_f)
    (e ∙ sum_cong count _ _ (λ t g. let q' : i + a + t ≡ c * q + (a + t) = omega arith in rw (part_at (i + a) m t K (omega arith), q') refl))

pub system_single : (x : Float) (K : List Float) (q a c i : ℕ) → i ≡ c * q → add_where (eqb a c) (zero_f ⊕ (x ⊗ (K ! (i + a)))) one_f ≡ system_one x q K a c
unfolding system_one
system_single x K q a c i o = rw o refl

pub system_one_lem : (first : ℕ) (theta K : List Float) (q a c : ℕ) → system_one (theta ! first) q K a c ≡ system_by first 1 theta q K a c
unfolding system_one system_by sum_to
system_one_lem first theta K q a c = rw (add-zero a, add-zero first) refl

-- ---- Λu column by column
-- entry i of Λu, as far as the first j columns make it
unfoldable pub times_to : Shape → List Float → List Float → ℕ → ℕ → Float
times_to s theta u j i = sum_where j (λ k. is_entry s i k) (times_term s theta u i)

-- of no column, the wiped places
pub times_none : (s : Shape) (theta u : List Float) (q : ℕ) (b X : List Float) → q ≤ length b → X ≡ fill_to q zero_at b → X ≡ fill_to q (times_to s theta u 0) X
unfolding times_to sum_where
times_none s theta u q b X h e = rw e (sym (fill_over q zero_at zero_at b h))

-- of all, Λu
pub times_all : (s : Shape) (theta u : List Float) (q j : ℕ) (b W X : List Float) → q ≡ effects_of s → j ≡ q → q ≤ length b → W ≡ fill_to q zero_at b → X ≡ fill_to q (times_to s theta u j) W → X ≡ fill_to q (lambda_times_at s theta u) b
unfolding times_to lambda_times_at across_row
times_all s theta u q j b W X e d h w x =
    let all : times_to s theta u j ≡ lambda_times_at s theta u = ap (λ (k : ℕ). times_to s theta u k) (d ∙ e) in
    x ∙ ap (λ (f : ℕ → Float). fill_to q f W) all ∙ ap (λ (v : List Float). fill_to q (lambda_times_at s theta u) v) w ∙ fill_over q (lambda_times_at s theta u) zero_at b h

module _ (s : Shape) (theta u : List Float) (q j : ℕ) (b X : List Float) (r : InRange s) (l : j < effects_of s) (e : q ≡ effects_of s) (h : q ≤ length b) (x : X ≡ fill_to q (times_to s theta u j) b) where
  abbrev first : ℕ
  first = (column_of s j).first

  abbrev count : ℕ
  count = (column_of s j).count

  abbrev W : List Float
  W = fill_at j count (column_added_at theta first (u ! j) X j) X

  within : j + count ≤ q
  within = omega (arith, e, column_rows s j r l)

  long : length X ≡ length b
  long = rw x (length_fill q (times_to s theta u j) b)

  before : (i : ℕ) → i < q → X ! i ≡ times_to s theta u j i
  before i m = rw x (fill_in q (times_to s theta u j) b h i m)

  -- a row that the column does not reach
  skipped : (i : ℕ) → i < q → is_entry s i j ≡ false → X ! i ≡ times_to s theta u (j + 1) i
  unfolding times_to
  skipped i m n = where_skip (λ k. is_entry s i k) (times_term s theta u i) j (X ! i) n (before i m)

  -- the row t below the diagonal
  taken : (t : ℕ) → t < count → (X ! (j + t)) ⊕ ((theta ! (first + t)) ⊗ (u ! j)) ≡ times_to s theta u (j + 1) (j + t)
  unfolding times_to times_term
  taken t m =
      rw (← entry_at s theta j t)
      (where_take (λ k. is_entry s (j + t) k) (times_term s theta u (j + t)) j (X ! (j + t)) (entry_in s j t m) (before (j + t) (omega (arith, within))))

  inside : (i : ℕ) → i < q → W ! i ≡ times_to s theta u (j + 1) i
  unfolding column_added_at
  inside i m =
      ⊎_elim (λ (a : i < j). fillat_below j count _ X i a ∙ skipped i m (entry_above s i j a))
      (λ (a : j ≤ i).
      ⊎_elim
      (λ (d : i < j + count).
      let z : j + (i - j) ≡ i = omega arith in
      let here : W ! (j + (i - j)) ≡ times_to s theta u (j + 1) (j + (i - j)) =
      fillat_in j count (column_added_at theta first (u ! j) X j) X (omega (arith, within, long)) (i - j) (omega arith) ∙ taken (i - j) (omega arith) in
      rw z at here)
      (λ (d : j + count ≤ i). fillat_above j count _ X i d ∙ skipped i m (entry_past s i j d))
      (lt_or_ge i (j + count)))
      (lt_or_ge i j)

  pub times_step : W ≡ fill_to q (times_to s theta u (j + 1)) b
  times_step =
      fill_is q (times_to s theta u (j + 1)) b W h (length_fillat j count _ X ∙ long) inside
      (λ i m. fillat_above j count _ X i (omega (arith, within)) ∙ rw x (fill_past q (times_to s theta u j) b i m))

-- ---- a column of SΛ and a row of A, by the column k of Λ
module _ (s : Shape) (theta S : List Float) (k : Column) (q c o : ℕ) (b X : List Float) (r : InRange s) (e : k ≡ column_of s c) (eq : q ≡ effects_of s) (l : c < q) (eo : o ≡ c * q) where
  pub right_end : X ≡ fill_at o q (right_by k.first k.count theta q S c) b → X ≡ fill_at (c * q) q (right_column_at s theta S c) b
  right_end x = x ∙ rw eo (fillat_cong (c * q) q _ _ b (λ i m. rw (e, eq) (right_by_lem s theta S c i r (omega (arith, eq)))))

  pub right_end_one : k.count ≡ 1 → X ≡ fill_at o q (right_one (theta ! k.first) q S c) b → X ≡ fill_at (c * q) q (right_column_at s theta S c) b
  right_end_one n x = right_end (x ∙ fillat_cong o q _ _ b (λ i m. rw n (right_one_lem k.first theta S q c i)))

  pub system_end : X ≡ fill_at o q (system_by k.first k.count theta q S c) b → X ≡ fill_at (c * q) q (system_at s theta S c) b
  system_end x = x ∙ rw eo (fillat_cong (c * q) q _ _ b (λ i m. rw (e, eq) (system_by_lem s theta S c i r (omega (arith, eq)))))

  pub system_end_one : k.count ≡ 1 → X ≡ fill_at o q (system_one (theta ! k.first) q S c) b → X ≡ fill_at (c * q) q (system_at s theta S c) b
  system_end_one n x = system_end (x ∙ fillat_cong o q _ _ b (λ i m. rw n (system_one_lem k.first theta S q c i)))

-- ---- Λ is one number times the unit matrix
module _ (s : Shape) (theta : List Float) (r : InRange s) (n : s.count ≡ 1) (k : s.k !! 0 ≡ 1) where
  count_one : (j : ℕ) → j < effects_of s → (column_of s j).count ≡ 1
  count_one j l = ap (λ (c : Column). c.count) (one_column s j r n k l)

  diagonal : (j : ℕ) → j < effects_of s → lambda_at s theta j j ≡ theta ! 0
  diagonal j l =
      let here : lambda_at s theta j j ≡ theta ! ((column_of s j).first + 0) = rw (add-zero j) at (entry_at s theta j 0) in
      let first : (column_of s j).first ≡ 0 = ap (λ (c : Column). c.first) (one_column s j r n k l) in
      here ∙ rw first refl

  pub transposed_one : (v : List Float) (j : ℕ) → j < effects_of s → scaled_at (theta ! 0) v j ≡ lambda_transposed_at s theta v j
  unfolding lambda_transposed_at transposed_term scaled_at sum_to
  transposed_one v j l =
      sym (column_sum s j (transposed_term s theta v j) r l ∙ rw (count_one j l, add-zero j, diagonal j l) refl)

  pub times_one : (u : List Float) (i : ℕ) → i < effects_of s → scaled_at (theta ! 0) u i ≡ lambda_times_at s theta u i
  unfolding lambda_times_at across_row times_term scaled_at sum_to
  times_one u i l =
      sym
      (where_stretch (λ j. is_entry s i j) (times_term s theta u i) (effects_of s) i 1 (omega arith)
      (λ j m. entry_past s i j (omega (arith, count_one j (omega arith))))
      (λ j m. on_diagonal j m)
      (λ j m g. entry_above s i j (omega arith))
      ∙ rw (add-zero i, diagonal i l) refl)
    where
      on_diagonal : (j : ℕ) → j < 1 → is_entry s i (i + j) ≡ true
      on_diagonal j m =
          let z : j ≡ 0 = omega arith in
          rw (z, add-zero i) (rw (add-zero i) at (entry_in s i 0 (omega (arith, count_one i l))))

-- one number of v more is multiplied in place
pub scaled_step : (x : Float) (v : List Float) (j : ℕ) (X : List Float) → X ≡ fill_to j (scaled_at x v) v → set X j (zero_f ⊕ (x ⊗ (X ! j))) ≡ fill_to (j + 1) (scaled_at x v) v
unfolding scaled_at
scaled_step x v j X e =
    let old : X ! j ≡ v ! j = rw e (fill_past j (scaled_at x v) v j (le_refl j)) in
    rw old (fill_step (scaled_at x v) v j X e)

-- ---- the whole list, where Λ is one number times the unit matrix
fill_same : (q : ℕ) (f g : ℕ → Float) (b X : List Float) → q ≤ length b → ((i : ℕ) → i < q → f i ≡ g i) → X ≡ fill_to q f b → X ≡ fill_to q g b
fill_same q f g b X h p e =
    fill_is q g b X h (ap length e ∙ length_fill q f b)
    (λ i l. ap (λ (y : List Float). y ! i) e ∙ fill_in q f b h i l ∙ p i l)
    (λ i l. ap (λ (y : List Float). y ! i) e ∙ fill_past q f b i l)

-- a copy of u, multiplied in place
pub scaled_copy : (x : Float) (q : ℕ) (u b w X : List Float) → q ≤ length b → w ≡ fill_to q (entry_of u) b → X ≡ fill_to q (scaled_at x w) w → X ≡ fill_to q (scaled_at x u) b
unfolding scaled_at
scaled_copy x q u b w X h c e =
    fill_is q (scaled_at x u) b X h (ap length e ∙ length_fill q (scaled_at x w) w ∙ long)
    (λ i l. ap (λ (y : List Float). y ! i) e ∙ fill_in q (scaled_at x w) w (omega (arith, long)) i l ∙ ap (λ (y : Float). zero_f ⊕ (x ⊗ y)) (ap (λ (y : List Float). y ! i) c ∙ fill_in q (entry_of u) b h i l))
    (λ i l. ap (λ (y : List Float). y ! i) e ∙ fill_past q (scaled_at x w) w i l ∙ ap (λ (y : List Float). y ! i) c ∙ fill_past q (entry_of u) b i l)
  where
    long : length w ≡ length b
    long = ap length c ∙ length_fill q (entry_of u) b

module _ (s : Shape) (theta : List Float) (q : ℕ) (r : InRange s) (one : is_single s ≡ true) (e : q ≡ effects_of s) where
  pub transposed_single : (v X : List Float) → q ≤ length v → X ≡ fill_to q (scaled_at (theta ! 0) v) v → X ≡ fill_to q (lambda_transposed_at s theta v) v
  transposed_single v X h x =
      fill_same q _ _ v X h (λ i l. transposed_one s theta r (single_is s one).0 (single_is s one).1 v i (omega (arith, e))) x

  pub times_single : (u b X : List Float) → q ≤ length b → X ≡ fill_to q (scaled_at (theta ! 0) u) b → X ≡ fill_to q (lambda_times_at s theta u) b
  times_single u b X h x =
      fill_same q _ _ b X h (λ i l. times_one s theta r (single_is s one).0 (single_is s one).1 u i (omega (arith, e))) x
