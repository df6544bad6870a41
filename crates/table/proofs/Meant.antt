-- Each test of the table as facts, and back. Assumes nothing.
use mathlib.Core.Path.{◌≡◌, refl, sym, ap}
use mathlib.Core.List.{List}
use mathlib.Core.Logic.{◌⊎◌, inl, inr, ⊎_elim}
use mathlib.Core.Bool.{Bool, true, false, not, ◌||◌}
use Prim.Native.Nat.{ℕ, ◌+◌, ◌*◌, ◌≤◌}
use native.Mathlib.Nat.{mul-le-mul}
use lib.Dec.{leb, eqb}
use lib.ListN.{length}
use lib.Ieee.{Float}
use borrow.Author.Tests.{leb-true, le-leb, eqb-true, eq-eqb}
use Rattle.base.specs.Sum.{finite_at}
use Rattle.base.proofs.Doubles.{ff}
use Rattle.base.proofs.Sums.{all_at}
use Rattle.model.specs.Shape.{theta_length}
use Rattle.model.specs.declared.names.Start.{Start}
use Rattle.model.specs.declared.names.Start.TheVariants.{Usual, Trials}
use Rattle.model.specs.declared.sizes.Shape.{Shape}
use Rattle.model.specs.declared.sizes.Settings.{Settings}
use Rattle.model.proofs.Tests.{both, false_unless}
use Rattle.family.specs.declared.carried.CarriedFamily.{CarriedFamily}
use Rattle.family.specs.declared.carried.CarriedFamily.TheVariants.{Binomial, Poisson, Gaussian, Gamma}
use Rattle.layout.specs.WorkRows.{rows_length}
use Rattle.layout.specs.WorkMatrices.{matrices_length}
use Rattle.layout.specs.WorkTerms.{terms_length}
use Rattle.table.specs.Tests.{good_count, absent_or, good_inputs, good_results, good_work, all_finite, finite_numbers, good_numbers, in_range_at, all_in_range, not_below_at, none_below, start_fits}
use Rattle.model.specs.Inputs.{Inputs}
use Rattle.table.specs.Facts.{AbsentOr, InputsFit, ResultsFit, WorkFits, AllFinite, AllInRange, NoneBelow, StartFits, NumbersFinite}
use Rattle.table.specs.declared.verdicts.LentLengths.{LentLengths}

-- ---- lists that may be absent
either : (a b : Bool) → a || b ≡ true → (a ≡ true) ⊎ (b ≡ true)
either true b e = inl refl
either false b e = inr e

pub absent_or_lem : (n : ℕ) (l : List Float) → absent_or n (length l) ≡ true → AbsentOr n l
unfolding absent_or
absent_or_lem n l e =
    ⊎_elim (λ (a : eqb (length l) 0 ≡ true). inl (eqb-true (length l) 0 a)) (λ (a : eqb (length l) n ≡ true). inr (eqb-true (length l) n a)) (either (eqb (length l) 0) (eqb (length l) n) e)

pub or_absent : (n : ℕ) (l : List Float) → AbsentOr n l → absent_or n (length l) ≡ true
unfolding absent_or
or_absent n l o =
    ⊎_elim (λ (a : length l ≡ 0). rw (eq-eqb (length l) 0 a) refl) (λ (a : length l ≡ n). or_right (eqb (length l) 0) (eqb (length l) n) (eq-eqb (length l) n a)) o
  where
    or_right : (a b : Bool) → b ≡ true → a || b ≡ true
    or_right true b e = refl
    or_right false b e = e

-- ---- number 8
pub count_fits : (r : ℕ) → good_count r ≡ true → (1 ≤ r) × (r ≤ 64)
count_fits r e =
    let a : (leb 1 r ≡ true) × (leb r 64 ≡ true) = both e in
    (leb-true _ _ a.0, leb-true _ _ a.1)

-- ---- number 2
pub inputs_fit : (r : ℕ) (t : Settings) (s : Shape) (I : Inputs) → good_inputs r t s I ≡ true → InputsFit r t s I
unfolding good_inputs
inputs_fit r t s I e =
    let a : (_ ≡ true) × (eqb (length I.values) t.entries ≡ true) = both e in
    let b : (_ ≡ true) × (eqb (length I.columns) t.entries ≡ true) = both a.0 in
    let c : (_ ≡ true) × (eqb (length I.starts) (t.rows + 1) ≡ true) = both b.0 in
    let d : (_ ≡ true) × (eqb (length I.x) (t.n * t.p) ≡ true) = both c.0 in
    let f : (_ ≡ true) × (absent_or t.n (length I.offset) ≡ true) = both d.0 in
    let g : (_ ≡ true) × (absent_or t.n (length I.weights) ≡ true) = both f.0 in
    let h : (eqb (length I.theta) (theta_length s) ≡ true) × (eqb (length I.y) (r * t.n) ≡ true) = both g.0 in
    record {
      theta = eqb-true _ _ h.0;
      y = eqb-true _ _ h.1;
      weights = absent_or_lem t.n I.weights g.1;
      offset = absent_or_lem t.n I.offset f.1;
      x = eqb-true _ _ d.1;
      starts = eqb-true _ _ c.1;
      columns = eqb-true _ _ b.1;
      values = eqb-true _ _ a.1;
    }

pub not_inputs : (r : ℕ) (t : Settings) (s : Shape) (I : Inputs) → (InputsFit r t s I → ⊥) → false ≡ good_inputs r t s I
not_inputs r t s I h = false_unless (λ e. h (inputs_fit r t s I e))

-- where all else fits, the values decide
pub inputs_when : (r : ℕ) (t : Settings) (s : Shape) (I : Inputs) → length I.theta ≡ theta_length s → length I.y ≡ r * t.n → absent_or t.n (length I.weights) ≡ true
    → absent_or t.n (length I.offset) ≡ true → length I.x ≡ t.n * t.p → length I.starts ≡ t.rows + 1 → length I.columns ≡ t.entries
    → eqb (length I.values) t.entries ≡ good_inputs r t s I
unfolding good_inputs
inputs_when r t s I a b c d e f g =
    rw (eq-eqb (length I.theta) (theta_length s) a, eq-eqb (length I.y) (r * t.n) b, c, d, eq-eqb (length I.x) (t.n * t.p) e, eq-eqb (length I.starts) (t.rows + 1) f, eq-eqb (length I.columns) t.entries g) refl

pub results_fit : (r : ℕ) (t : Settings) (L : LentLengths) → good_results r t L ≡ true → ResultsFit r t L
unfolding good_results
results_fit r t L e =
    let a : (_ ≡ true) × (eqb L.v (r * t.p * t.p) ≡ true) = both e in
    let b : (_ ≡ true) × (eqb L.residual (r * t.n) ≡ true) = both a.0 in
    let c : (_ ≡ true) × (eqb L.eta (r * t.n) ≡ true) = both b.0 in
    let d : (_ ≡ true) × (eqb L.mu (r * t.n) ≡ true) = both c.0 in
    let f : (_ ≡ true) × (eqb L.b (r * t.rows) ≡ true) = both d.0 in
    let g : (_ ≡ true) × (eqb L.u (r * t.rows) ≡ true) = both f.0 in
    let h : (_ ≡ true) × (eqb L.z (r * t.p) ≡ true) = both g.0 in
    let k : (eqb L.beta (r * t.p) ≡ true) × (eqb L.se (r * t.p) ≡ true) = both h.0 in
    record {
      beta = eqb-true _ _ k.0;
      se = eqb-true _ _ k.1;
      z = eqb-true _ _ h.1;
      u = eqb-true _ _ g.1;
      b = eqb-true _ _ f.1;
      mu = eqb-true _ _ d.1;
      eta = eqb-true _ _ c.1;
      residual = eqb-true _ _ b.1;
      v = eqb-true _ _ a.1;
    }

pub not_results : (r : ℕ) (t : Settings) (L : LentLengths) → (ResultsFit r t L → ⊥) → false ≡ good_results r t L
not_results r t L h = false_unless (λ e. h (results_fit r t L e))

-- where all else fits, v decides
pub results_when : (r : ℕ) (t : Settings) (L : LentLengths) → L.beta ≡ r * t.p → L.se ≡ r * t.p → L.z ≡ r * t.p → L.u ≡ r * t.rows → L.b ≡ r * t.rows → L.mu ≡ r * t.n → L.eta ≡ r * t.n
    → L.residual ≡ r * t.n → eqb L.v (r * t.p * t.p) ≡ good_results r t L
unfolding good_results
results_when r t L a b c d e f g h =
    rw (eq-eqb L.beta (r * t.p) a, eq-eqb L.se (r * t.p) b, eq-eqb L.z (r * t.p) c, eq-eqb L.u (r * t.rows) d, eq-eqb L.b (r * t.rows) e, eq-eqb L.mu (r * t.n) f, eq-eqb L.eta (r * t.n) g, eq-eqb L.residual (r * t.n) h) refl

-- products of sizes and of at most 64 responses are small
pub many_few : {r k : ℕ} (c : ℕ) → r ≤ 64 → k ≤ c → r * k ≤ 64 * c
many_few c h l = mul-le-mul {n₂ = 64} {m₂ = c} h l

-- ---- number 7
pub work_fits : (t : Settings) (L : LentLengths) → good_work t L ≡ true → WorkFits t L
unfolding good_work
work_fits t L e =
    let a : (_ ≡ true) × (leb terms_length L.terms ≡ true) = both e in
    let b : (leb (rows_length t.n) L.rows ≡ true) × (leb (matrices_length t.p t.rows) L.matrices ≡ true) = both a.0 in
    record { rows = leb-true _ _ b.0; matrices = leb-true _ _ b.1; terms = leb-true _ _ a.1 }

pub not_work : (t : Settings) (L : LentLengths) → (WorkFits t L → ⊥) → false ≡ good_work t L
not_work t L h = false_unless (λ e. h (work_fits t L e))

-- where all else fits, the terms decide
pub work_when : (t : Settings) (L : LentLengths) → rows_length t.n ≤ L.rows → matrices_length t.p t.rows ≤ L.matrices → leb terms_length L.terms ≡ good_work t L
unfolding good_work
work_when t L a b = rw (le-leb (rows_length t.n) L.rows a, le-leb (matrices_length t.p t.rows) L.matrices b) refl

-- ---- number 9
pub list_in_range : (f : CarriedFamily) (y : List Float) → all_in_range y f ≡ true → AllInRange f y
unfolding all_in_range
list_in_range f y e = all_at (in_range_at f y) (length y) (sym e)

-- ---- number 27
-- the start is the one with trial counts
abbrev pub is_trials : Start → Bool
is_trials Usual = false
is_trials Trials = true

-- the family is binomial
abbrev pub is_binomial : CarriedFamily → Bool
is_binomial Binomial = true
is_binomial Poisson = false
is_binomial Gaussian = false
is_binomial Gamma = false

not_below : {b : Bool} → not b ≡ true → b ≡ false
not_below {b = true} e = absurd (ff e)
not_below {b = false} e = refl

list_none_below : (weights : List Float) → none_below weights ≡ true → NoneBelow weights
unfolding none_below
list_none_below weights e = λ i l. not_below (all_at (not_below_at weights) (length weights) (sym e) i l)

pub start_fits_lem : (start : Start) (weights : List Float) (f : CarriedFamily) → start_fits start weights f ≡ true → StartFits start weights f
unfolding start_fits
start_fits_lem Usual weights f e = λ s. absurd (ff (ap is_trials s))
start_fits_lem Trials weights Binomial e = λ s. (refl, list_none_below weights e)
start_fits_lem Trials weights Poisson e = absurd (ff e)
start_fits_lem Trials weights Gaussian e = absurd (ff e)
start_fits_lem Trials weights Gamma e = absurd (ff e)

-- ---- number 3
finite_list : (xs : List Float) → all_finite xs ≡ true → AllFinite xs
unfolding all_finite
finite_list xs e = all_at (finite_at xs) (length xs) (sym e)

pub numbers_finite : (I : Inputs) → good_numbers I ≡ true → NumbersFinite I
unfolding finite_numbers
numbers_finite I e =
    let a : (_ ≡ true) × (all_finite I.values ≡ true) = both e in
    let b : (_ ≡ true) × (all_finite I.x ≡ true) = both a.0 in
    let c : (_ ≡ true) × (all_finite I.offset ≡ true) = both b.0 in
    let d : (_ ≡ true) × (all_finite I.weights ≡ true) = both c.0 in
    let f : (all_finite I.theta ≡ true) × (all_finite I.y ≡ true) = both d.0 in
    record {
      theta = finite_list I.theta f.0;
      y = finite_list I.y f.1;
      weights = finite_list I.weights d.1;
      offset = finite_list I.offset c.1;
      x = finite_list I.x b.1;
      values = finite_list I.values a.1;
    }
