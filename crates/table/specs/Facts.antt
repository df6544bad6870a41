-- What the tests of the table mean, as facts, and what an accepted call of r responses has. Assumes nothing.
use Rattle.std.specs.Prelude.{◌≡◌, List, ◌⊎◌, true, false, ℕ, ◌+◌, ◌*◌, ◌≤◌, ◌<◌, length, Float}
use Rattle.std.specs.Float.Ieee.{lt}
use Rattle.base.specs.Number.{zero_f, finite}
use Rattle.base.specs.Sum.{◌!◌, ◌!!◌}
use Rattle.base.specs.Sparse.{Rising, Rows}
use Rattle.model.specs.Shape.{theta_length}
use Rattle.model.specs.Settings.{Sized}
use Rattle.model.specs.declared.names.Start.{Start}
use Rattle.model.specs.declared.names.Start.TheVariants.{Trials}
use Rattle.model.specs.declared.sizes.Shape.{Shape}
use Rattle.model.specs.declared.sizes.Settings.{Settings}
use Rattle.layout.specs.WorkRows.{rows_length}
use Rattle.layout.specs.WorkMatrices.{matrices_length}
use Rattle.layout.specs.WorkTerms.{terms_length}
use Rattle.family.specs.Family.{in_range}
use Rattle.family.specs.Carried.{carried_family, carried_link, valid_for}
use Rattle.family.specs.declared.carried.CarriedFamily.{CarriedFamily}
use Rattle.family.specs.declared.carried.CarriedFamily.TheVariants.{Binomial}
use Rattle.family.specs.declared.carried.CarriedLink.{CarriedLink}
use Rattle.model.specs.Inputs.{Inputs}
use Rattle.table.specs.declared.verdicts.LentLengths.{LentLengths}

-- a list is absent, or has n numbers
abbrev pub AbsentOr : ℕ → List Float → Type 0
AbsentOr n l = (length l ≡ 0) ⊎ (length l ≡ n)

-- each lent input is as long as the sizes say
pub record InputsFit (r : ℕ) (t : Settings) (s : Shape) (I : Inputs) : Type 0 where
  pub theta : length I.theta ≡ theta_length s
  pub y : length I.y ≡ r * t.n
  pub weights : AbsentOr t.n I.weights
  pub offset : AbsentOr t.n I.offset
  pub x : length I.x ≡ t.n * t.p
  pub starts : length I.starts ≡ t.rows + 1
  pub columns : length I.columns ≡ t.entries
  pub values : length I.values ≡ t.entries

-- each lent result is as long as the sizes say
pub record ResultsFit (r : ℕ) (t : Settings) (L : LentLengths) : Type 0 where
  pub beta : L.beta ≡ r * t.p
  pub se : L.se ≡ r * t.p
  pub z : L.z ≡ r * t.p
  pub u : L.u ≡ r * t.rows
  pub b : L.b ≡ r * t.rows
  pub mu : L.mu ≡ r * t.n
  pub eta : L.eta ≡ r * t.n
  pub residual : L.residual ≡ r * t.n
  pub v : L.v ≡ r * t.p * t.p

-- each work slice has its named length
pub record WorkFits (t : Settings) (L : LentLengths) : Type 0 where
  pub rows : rows_length t.n ≤ L.rows
  pub matrices : matrices_length t.p t.rows ≤ L.matrices
  pub terms : terms_length ≤ L.terms

-- the row starts of Z' go from 0 to the entry count without falling, and the columns of each row are below n and rise
pub record RowsFit (t : Settings) (I : Inputs) : Type 0 where
  pub first : I.starts !! 0 ≡ 0
  pub last : I.starts !! t.rows ≡ length I.columns
  pub each : (a : ℕ) → a < t.rows → Rising I.columns t.n (I.starts !! a) (I.starts !! (a + 1))

-- every number of a list is finite
abbrev pub AllFinite : List Float → Type 0
AllFinite xs = (i : ℕ) → i < length xs → finite (xs ! i) ≡ true

-- every response lies in the family's range
abbrev pub AllInRange : CarriedFamily → List Float → Type 0
AllInRange f y = (i : ℕ) → i < length y → in_range f (y ! i) ≡ true

-- no weight is below 0
abbrev pub NoneBelow : List Float → Type 0
NoneBelow weights = (i : ℕ) → i < length weights → lt (weights ! i) zero_f ≡ false

-- with trial counts the family is binomial, and no weight is below 0
abbrev pub StartFits : Start → List Float → CarriedFamily → Type 0
StartFits start weights f = start ≡ Trials → (f ≡ Binomial) × NoneBelow weights

-- every input number is finite
pub record NumbersFinite (I : Inputs) : Type 0 where
  pub theta : AllFinite I.theta
  pub y : AllFinite I.y
  pub weights : AllFinite I.weights
  pub offset : AllFinite I.offset
  pub x : AllFinite I.x
  pub values : AllFinite I.values

-- what a call has that is accepted with the formulas of f and l
pub record Sound (r : ℕ) (t : Settings) (s : Shape) (I : Inputs) (L : LentLengths) (f : CarriedFamily) (l : CarriedLink) : Type 0 where
  pub sized : Sized t s
  pub responses : (1 ≤ r) × (r ≤ 64)
  pub inputs_fit : InputsFit r t s I
  pub results_fit : ResultsFit r t L
  pub work_fits : WorkFits t L
  pub rows : Rows I.starts I.columns I.values t.rows t.n
  pub numbers : NumbersFinite I
  pub valid : valid_for t.link t.family ≡ true
  pub family : carried_family t.family ≡ f
  pub link : carried_link t.link ≡ l
  pub ranged : AllInRange f I.y
  pub started : StartFits t.start I.weights f
