-- What the sum of a group tells of the written rule, and what it leaves. Document 01, "The inner fit", on stopping. Assumes nothing.
use Rattle.quadrature.specs.declared.orders.Decline.{Decline}
use Rattle.std.specs.Prelude.{Result, Ok, Err}
use Rattle.std.specs.Prelude.{◌≡◌, List, Bool, true, false, ℕ, ◌+◌, ◌*◌, ◌≤◌, length, replicate, Float}
use Rattle.base.specs.Number.{finite}
use Rattle.base.specs.List.{build}
use Rattle.base.specs.Rows.{Only, OnlyTwo}
use Rattle.layout.specs.WorkRows.{point_row}
use Rattle.layout.specs.WorkMatrices.{inverse_place, trial_u_place}
use Rattle.layout.specs.WorkTerms.{terms_length}
use Rattle.model.specs.Items.{a_point}
use Rattle.quadrature.specs.declared.orders.Decline.TheVariants as decline
use Rattle.quadrature.specs.LogSum.{log_sum_exp}
use Rattle.rule.specs.Given.{Given}
use Rattle.rule.specs.Stop.{Mode}
use Rattle.agq_rule.specs.Steps.{Integrated, answers, points_before}
use Rattle.sums.specs.Stands.{Stands}
use Rattle.sums.specs.declared.answers.GroupSum.{GroupSum}
use Rattle.sums.specs.declared.answers.Quadrature.{Quadrature}

-- the rest goes on from a log sum; without one the step declines
unfoldable pub carry : Result Float Decline → (Float → Integrated) → Integrated
carry (Ok s) rest = rest s
carry (Err d) rest = answers (Err d)

-- by the test of a log sum
unfoldable pub summed_by : Bool → Float → Result Float Decline
summed_by false s = Err decline.Sum
summed_by true s = Ok s

-- the log sum of terms, each of them a point
unfoldable pub group_sum_of : List Float → GroupSum
group_sum_of terms = record { sum = summed_by (finite (log_sum_exp terms)) (log_sum_exp terms); points = length terms }

-- what the sum of a group tells, then the rest
abbrev pub tells_then : GroupSum → (Float → Integrated) → Integrated
tells_then a rest = points_before a.points (carry a.sum rest)

-- what a step's answer tells
unfoldable pub integrated_of : Quadrature → Integrated
integrated_of a = record { answer = a.answer; items = replicate a.points a_point }

-- nothing has changed but the row of Zb and the marks, the factor of a block, the effects at a point with Λ times them and its nodes, and the terms
pub record StepFrame (n p q : ℕ) (r r' m m' t t' : List Float) : Type 0 where
  pub rows_only : Only (point_row n) (n + n) r r'
  pub matrices_only : OnlyTwo (inverse_place q) (q * q) (trial_u_place p q) (q + q + q) m m'
  pub terms_only : Only 0 terms_length t t'

-- the answer is the log sum of `count` terms, for every X and mode that the work slices hold
pub record SumLeft (G : List Float → Given) (term : Given → Mode → ℕ → Float) (n p q count : ℕ) (r r' m m' t t' : List Float) (a : GroupSum) : Type 0 where
  pub told : (x : List Float) (M : Mode) → Stands (G x) M r m → a ≡ group_sum_of (build (term (G x) M) count)
  pub many : a.points ≡ count
  pub frame : StepFrame n p q r r' m m' t t'

-- `rule` says what becomes of a group and then the rest; the answer tells it for every X and mode that the work slices hold, with at most `most` points
pub record GroupLeft (G : List Float → Given) (rule : Given → Mode → (Float → Integrated) → Integrated) (n p q most : ℕ) (r r' m m' t t' : List Float) (a : GroupSum) : Type 0 where
  pub told : (x : List Float) (M : Mode) → Stands (G x) M r m → (rest : Float → Integrated) → rule (G x) M rest ≡ tells_then a rest
  pub few : a.points ≤ most
  pub frame : StepFrame n p q r r' m m' t t'

-- `rule` is a step of the quadrature; the answer tells it for every X and mode that the work slices hold, the mode's fit term being `fit`
pub record StepLeft (G : List Float → Given) (rule : Given → Mode → Integrated) (n p q : ℕ) (fit : Float) (r r' m m' t t' : List Float) (a : Quadrature) : Type 0 where
  pub told : (x : List Float) (M : Mode) → Stands (G x) M r m → M.fit ≡ fit → rule (G x) M ≡ integrated_of a
  pub few : a.points ≤ 7000
  pub frame : StepFrame n p q r r' m m' t t'
