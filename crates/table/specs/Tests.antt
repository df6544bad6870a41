-- The tests of the table, but that of the sizes (number 1, `good_sizes` of model) and that of Z' (number 6, `good_rows` of base). Document 01, "Numbers of an answer" and "What the port carries"; document 02, P1, P6 and P10. Assumes nothing.
use Rattle.std.specs.Prelude.{List, Bool, true, false, not, ◌&&◌, ◌||◌, ℕ, ◌+◌, ◌*◌, leb, eqb, length, Float}
use Rattle.std.specs.Float.Ieee.{lt}
use Rattle.base.specs.Number.{zero_f}
use Rattle.base.specs.Sum.{◌!◌, all_to, finite_at}
use Rattle.model.specs.Inputs.{Inputs}
use Rattle.model.specs.Shape.{within, theta_length}
use Rattle.model.specs.declared.names.Start.{Start}
use Rattle.model.specs.declared.names.Start.TheVariants.{Usual, Trials}
use Rattle.model.specs.declared.sizes.Shape.{Shape}
use Rattle.model.specs.declared.sizes.Settings.{Settings}
use Rattle.layout.specs.WorkRows.{rows_length}
use Rattle.layout.specs.WorkMatrices.{matrices_length}
use Rattle.layout.specs.WorkTerms.{terms_length}
use Rattle.family.specs.Family.{in_range}
use Rattle.family.specs.declared.carried.CarriedFamily.{CarriedFamily}
use Rattle.family.specs.declared.carried.CarriedFamily.TheVariants.{Binomial, Poisson, Gaussian, Gamma}
use Rattle.table.specs.declared.verdicts.LentLengths.{LentLengths}

-- ---- number 8 (document 02, P1)

-- there are 1 to 64 responses
abbrev pub good_count : ℕ → Bool
good_count r = within 1 64 r

-- ---- number 2, with r responses on one design

-- a list that may be absent is empty or has n numbers
unfoldable pub absent_or : ℕ → ℕ → Bool
absent_or n l = eqb l 0 || eqb l n

-- each lent input is as long as the sizes say
unfoldable pub good_inputs : ℕ → Settings → Shape → Inputs → Bool
good_inputs r t s I =
    eqb (length I.theta) (theta_length s) && eqb (length I.y) (r * t.n) && absent_or t.n (length I.weights) && absent_or t.n (length I.offset)
    && eqb (length I.x) (t.n * t.p) && eqb (length I.starts) (t.rows + 1) && eqb (length I.columns) t.entries && eqb (length I.values) t.entries

-- each lent result is as long as the sizes say
unfoldable pub good_results : ℕ → Settings → LentLengths → Bool
good_results r t L =
    eqb L.beta (r * t.p) && eqb L.se (r * t.p) && eqb L.z (r * t.p) && eqb L.u (r * t.rows) && eqb L.b (r * t.rows) && eqb L.mu (r * t.n)
    && eqb L.eta (r * t.n) && eqb L.residual (r * t.n) && eqb L.v (r * t.p * t.p)

-- ---- number 7

-- each work slice has its named length: 16n, 3q² + 4p² + 2qp + 12(q + p), 7,000 numbers
unfoldable pub good_work : Settings → LentLengths → Bool
good_work t L = leb (rows_length t.n) L.rows && leb (matrices_length t.p t.rows) L.matrices && leb terms_length L.terms

-- ---- number 3

-- no entry is NaN or infinite
unfoldable pub all_finite : List Float → Bool
all_finite xs = all_to (length xs) (finite_at xs)

-- nor is one of any of six lists
unfoldable pub finite_numbers : List Float → List Float → List Float → List Float → List Float → List Float → Bool
finite_numbers theta y weights offset x values = all_finite theta && all_finite y && all_finite weights && all_finite offset && all_finite x && all_finite values

-- no input number is NaN or infinite
abbrev pub good_numbers : Inputs → Bool
good_numbers I = finite_numbers I.theta I.y I.weights I.offset I.x I.values

-- ---- number 9

-- response i lies in the family's range
abbrev pub in_range_at : CarriedFamily → List Float → ℕ → Bool
in_range_at f y i = in_range f (y ! i)

-- every response does
unfoldable pub all_in_range : List Float → CarriedFamily → Bool
all_in_range y f = all_to (length y) (in_range_at f y)

-- ---- number 27 (document 02, P10)

-- weight i is not below 0; -0.0 is not
abbrev pub not_below_at : List Float → ℕ → Bool
not_below_at weights i = not (lt (weights ! i) zero_f)

-- no weight is below 0
unfoldable pub none_below : List Float → Bool
none_below weights = all_to (length weights) (not_below_at weights)

-- the start with trial counts is for the binomial family, and for weights that can be counts; the usual start is for all
unfoldable pub start_fits : Start → List Float → CarriedFamily → Bool
start_fits Usual weights f = true
start_fits Trials weights Binomial = none_below weights
start_fits Trials weights Poisson = false
start_fits Trials weights Gaussian = false
start_fits Trials weights Gamma = false
