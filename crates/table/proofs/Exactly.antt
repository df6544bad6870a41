-- Each test of the table is passed exactly when its facts hold. Assumes nothing.
use mathlib.Core.Path.{◌≡◌, refl, sym, ap, ◌∙◌}
use mathlib.Core.List.{List}
use mathlib.Core.Logic.{◌↔◌, ◌⊎◌, inl, inr, ⊎_elim}
use mathlib.Core.Bool.{Bool, true, false, not}
use Prim.Native.Nat.{ℕ, zero, suc, ◌+◌, ◌-◌, ◌*◌, ◌≤◌, ◌<◌}
use native.Mathlib.Omega.{arith}
use borrow.Author.Tests.{le-leb, lt-ltb, eq-eqb, ne_eqb, eqb-true}
use lib.Dec.{eqb}
use lib.ListN.{length}
use lib.Ieee.{Float, lt}
use Rattle.base.specs.Number.{zero_f}
use Rattle.base.specs.Sum.{◌!◌, ◌!!◌, all_to, finite_at}
use Rattle.base.specs.Sparse.{not_falling, good_starts, column_fits, good_columns, good_row, good_rows, Rising}
use Rattle.base.proofs.Doubles.{ff}
use Rattle.base.proofs.Sums.{all_at, all_of, all_fails}
use Rattle.base.proofs.SparseRows.{starts_step, starts_within, columns_rising}
use Rattle.model.specs.Inputs.{Inputs}
use Rattle.model.specs.Settings.{good_sizes, Sized}
use Rattle.model.specs.declared.names.Start.{Start}
use Rattle.model.specs.declared.names.Start.TheVariants.{Usual, Trials}
use Rattle.model.specs.declared.sizes.Shape.{Shape}
use Rattle.model.specs.declared.sizes.Settings.{Settings}
use Rattle.model.proofs.Sized.{sized, sized_when}
use Rattle.model.proofs.Tests.{both, joined}
use Rattle.layout.specs.WorkTerms.{terms_length}
use Rattle.family.specs.Family.{in_range}
use Rattle.family.specs.declared.carried.CarriedFamily.{CarriedFamily}
use Rattle.family.specs.declared.carried.CarriedFamily.TheVariants.{Binomial, Poisson, Gaussian, Gamma}
use Rattle.table.specs.Tests.{good_count, good_inputs, good_results, good_work, all_finite, finite_numbers, good_numbers, in_range_at, all_in_range, not_below_at, none_below, start_fits}
use Rattle.table.specs.Facts.{InputsFit, ResultsFit, WorkFits, RowsFit, AllFinite, AllInRange, StartFits, NumbersFinite}
use Rattle.table.specs.declared.verdicts.LentLengths.{LentLengths}
use Rattle.table.proofs.Meant.{or_absent, count_fits, inputs_fit, inputs_when, results_fit, results_when, work_fits, work_when, numbers_finite, list_in_range, is_trials, is_binomial, start_fits_lem}

-- ---- number 1
pub sizes_exactly : (t : Settings) (s : Shape) → (good_sizes t s ≡ true) ↔ Sized t s
sizes_exactly t s =
    (sized t s, λ z. sym (sized_when t s (z.sizes.n_some, z.sizes.n_few) (z.sizes.p_some, z.sizes.p_few) z.shape z.effects z.entries_few) ∙ z.limit)

-- ---- number 8
pub count_exactly : (r : ℕ) → (good_count r ≡ true) ↔ ((1 ≤ r) × (r ≤ 64))
count_exactly r = (count_fits r, λ z. joined (le-leb 1 r z.0) (le-leb r 64 z.1))

-- ---- number 2
pub inputs_exactly : (r : ℕ) (t : Settings) (s : Shape) (I : Inputs) → (good_inputs r t s I ≡ true) ↔ InputsFit r t s I
inputs_exactly r t s I = (
  inputs_fit r t s I,
  λ z. sym (inputs_when r t s I z.theta z.y (or_absent t.n I.weights z.weights) (or_absent t.n I.offset z.offset) z.x z.starts z.columns) ∙ eq-eqb (length I.values) t.entries z.values,
)

pub results_exactly : (r : ℕ) (t : Settings) (L : LentLengths) → (good_results r t L ≡ true) ↔ ResultsFit r t L
results_exactly r t L =
    (results_fit r t L, λ z. sym (results_when r t L z.beta z.se z.z z.u z.b z.mu z.eta z.residual) ∙ eq-eqb L.v (r * t.p * t.p) z.v)

-- ---- number 7
pub work_exactly : (t : Settings) (L : LentLengths) → (good_work t L ≡ true) ↔ WorkFits t L
work_exactly t L = (work_fits t L, λ z. sym (work_when t L z.rows z.matrices) ∙ le-leb terms_length L.terms z.terms)

-- ---- number 6
column_fits_lem : (columns : List ℕ) (n b e : ℕ) → Rising columns n b e → (t : ℕ) → t < e - b → column_fits columns n b t ≡ true
unfolding column_fits
column_fits_lem columns n b e z zero l = joined (lt-ltb _ _ (z.below (b + 0) (omega arith) (omega arith))) refl
column_fits_lem columns n b e z (suc t) l =
    let q : b + suc t - 1 ≡ b + t = omega arith in
    let p : b + t + 1 ≡ b + suc t = omega arith in
    let some : eqb (suc t) 0 ≡ false = ne_eqb (suc t) 0 (λ o. omega arith) in
    let up : columns !! (b + t) < columns !! (b + suc t) = rw p at (z.above (b + t) (omega arith) (omega arith)) in
    joined (lt-ltb _ _ (z.below (b + suc t) (omega arith) (omega arith))) (rw (q, some) (lt-ltb _ _ up))

module _ (t : Settings) (I : Inputs) where
  rows_told : RowsFit t I → good_rows I.starts I.columns t.rows t.n ≡ true
  unfolding good_rows good_starts good_row good_columns not_falling
  rows_told z =
      let each = z.each in
      joined
      (joined (joined (eq-eqb _ _ z.first) (eq-eqb _ _ z.last)) (sym (all_of (not_falling I.starts) t.rows (λ a l. le-leb _ _ (each a l).order))))
      (sym (all_of (good_row I.starts I.columns t.n) t.rows (λ a l. sym (all_of _ _ (column_fits_lem I.columns t.n _ _ (each a l))))))

  rows_meant : good_rows I.starts I.columns t.rows t.n ≡ true → RowsFit t I
  unfolding good_rows good_starts good_row
  rows_meant h =
      let a : (good_starts I.starts t.rows (length I.columns) ≡ true) × (all_to t.rows (good_row I.starts I.columns t.n) ≡ true) = both h in
      let b : (_ ≡ true) × (all_to t.rows (not_falling I.starts) ≡ true) = both a.0 in
      let c : (eqb (I.starts !! 0) 0 ≡ true) × (eqb (I.starts !! t.rows) (length I.columns) ≡ true) = both b.0 in
      let step = starts_step I.starts t.rows (length I.columns) (sym a.0) in
      let few = starts_within I.starts t.rows (length I.columns) (sym a.0) in
      record {
        first = eqb-true _ _ c.0;
        last = eqb-true _ _ c.1;
        each = λ k l. columns_rising I.columns t.n (I.starts !! k) (I.starts !! (k + 1)) (step k l) (few (k + 1) (omega arith)) (sym (all_at (good_row I.starts I.columns t.n) t.rows (sym a.1) k l));
      }

  pub rows_exactly : (good_rows I.starts I.columns t.rows t.n ≡ true) ↔ RowsFit t I
  rows_exactly = (rows_meant, rows_told)

-- ---- number 3
list_told : (xs : List Float) → AllFinite xs → all_finite xs ≡ true
unfolding all_finite
list_told xs h = sym (all_of (finite_at xs) (length xs) h)

pub numbers_exactly : (I : Inputs) → (good_numbers I ≡ true) ↔ NumbersFinite I
unfolding finite_numbers
numbers_exactly I = (
  numbers_finite I,
  λ z. rw (list_told I.theta z.theta, list_told I.y z.y, list_told I.weights z.weights, list_told I.offset z.offset, list_told I.x z.x, list_told I.values z.values) refl,
)

-- ---- number 9
pub range_exactly : (f : CarriedFamily) (y : List Float) → (all_in_range y f ≡ true) ↔ AllInRange f y
unfolding all_in_range
range_exactly f y = (list_in_range f y, λ h. sym (all_of (in_range_at f y) (length y) h))

-- a test of all that fails, fails of one
one_fails : (t : ℕ → Bool) (n : ℕ) → all_to n t ≡ false → (k : ℕ) × ((k < n) × (t k ≡ false))
unfolding all_to
one_fails t zero e = absurd (ff (sym e))
one_fails t (suc n) e = by (all_to n t) refl (one_fails t n)
  where
    by : (b : Bool) → all_to n t ≡ b → (all_to n t ≡ false → (k : ℕ) × ((k < n) × (t k ≡ false))) → (k : ℕ) × ((k < suc n) × (t k ≡ false))
    by true h before = (n, (omega arith, rw h at e))
    by false h before = let k = before h in (k.0, (omega (arith, k.1.0), k.1.1))

-- some response is outside
pub outside_exactly : (f : CarriedFamily) (y : List Float) → (all_in_range y f ≡ false) ↔ ((i : ℕ) × ((i < length y) × (in_range f (y ! i) ≡ false)))
unfolding all_in_range
outside_exactly f y = (one_fails (in_range_at f y) (length y), λ h. sym (all_fails (in_range_at f y) (length y) h.0 h.1.0 h.1.1))

-- ---- number 27
start_told : (start : Start) (weights : List Float) (f : CarriedFamily) → StartFits start weights f → start_fits start weights f ≡ true
unfolding start_fits none_below
start_told Usual weights f h = refl
start_told Trials weights Binomial h = sym (all_of (not_below_at weights) (length weights) (λ i l. ap not ((h refl).1 i l)))
start_told Trials weights Poisson h = absurd (ff (ap is_binomial (h refl).0))
start_told Trials weights Gaussian h = absurd (ff (ap is_binomial (h refl).0))
start_told Trials weights Gamma h = absurd (ff (ap is_binomial (h refl).0))

pub start_exactly : (start : Start) (weights : List Float) (f : CarriedFamily) → (start_fits start weights f ≡ true) ↔ StartFits start weights f
start_exactly start weights f = (start_fits_lem start weights f, start_told start weights f)

-- some weight is below 0
abbrev pub SomeBelow : List Float → Type 0
SomeBelow weights = (i : ℕ) × ((i < length weights) × (lt (weights ! i) zero_f ≡ true))

below : {b : Bool} → not b ≡ false → b ≡ true
below {b = true} e = refl
below {b = false} e = absurd (ff (sym e))

one_below : (weights : List Float) → none_below weights ≡ false → SomeBelow weights
unfolding none_below
one_below weights e =
    let k = one_fails (not_below_at weights) (length weights) e in
    (k.0, (k.1.0, below k.1.1))

unfit_meant : (start : Start) (weights : List Float) (f : CarriedFamily) → start_fits start weights f ≡ false → (start ≡ Trials) × ((f ≡ Binomial → ⊥) ⊎ SomeBelow weights)
unfolding start_fits
unfit_meant Usual weights f e = absurd (ff (sym e))
unfit_meant Trials weights Binomial e = (refl, inr (one_below weights e))
unfit_meant Trials weights Poisson e = (refl, inl (λ b. ff (ap is_binomial b)))
unfit_meant Trials weights Gaussian e = (refl, inl (λ b. ff (ap is_binomial b)))
unfit_meant Trials weights Gamma e = (refl, inl (λ b. ff (ap is_binomial b)))

unfit_told : (start : Start) (weights : List Float) (f : CarriedFamily) → (start ≡ Trials) × ((f ≡ Binomial → ⊥) ⊎ SomeBelow weights) → start_fits start weights f ≡ false
unfolding start_fits none_below
unfit_told Usual weights f h = absurd (ff (ap is_trials h.0))
unfit_told Trials weights Binomial h =
    ⊎_elim (λ (n : Binomial ≡ Binomial → ⊥). absurd (n refl)) (λ (w : SomeBelow weights). sym (all_fails (not_below_at weights) (length weights) w.0 w.1.0 (ap not w.1.1))) h.1
unfit_told Trials weights Poisson h = refl
unfit_told Trials weights Gaussian h = refl
unfit_told Trials weights Gamma h = refl

-- 27: trial counts are asked for, and the family is not binomial or some weight is below 0
pub unfit_exactly : (start : Start) (weights : List Float) (f : CarriedFamily) → (start_fits start weights f ≡ false) ↔ ((start ≡ Trials) × ((f ≡ Binomial → ⊥) ⊎ SomeBelow weights))
unfit_exactly start weights f = (unfit_meant start weights f, unfit_told start weights f)
