-- What the functions of a solve ask of their arguments, and the design that the arguments are. Assumes nothing.
use Rattle.std.specs.Prelude.{◌≡◌, List, true, ℕ, ◌≤◌, length, Float}
use Rattle.base.specs.Sparse.{Sparse, Rows}
use Rattle.model.specs.Shape.{effects_of, theta_length, good_shape}
use Rattle.model.specs.declared.sizes.Shape.{Shape}
use Rattle.base.specs.Rows.{Wrote}
use Rattle.factor.specs.Substitution.{ldl_solve}
use Rattle.factor.specs.Triangle.{SameBelow}
use Rattle.rule.specs.Given.{Design, design_of, q_of}
use Rattle.rule.specs.Solve.{side_of}
use Rattle.stored.specs.declared.lent.Sparse.{Sparse as LentSparse}

-- the shape has q effects, theta has its numbers, and Z' has a good row for each effect over n observations
pub record Ready (shape : Shape) (theta : List Float) (starts columns : List ℕ) (values : List Float) (q n : ℕ) : Type 0 where
  pub good : good_shape shape ≡ true
  pub effects : q ≡ effects_of shape
  pub numbers : theta_length shape ≤ length theta
  pub rows : Rows starts columns values q n

-- the same of Z' as it is lent
abbrev pub ReadyIn : Shape → List Float → LentSparse → (q n : ℕ) → Type 0
ReadyIn shape theta z q n = Ready shape theta z.starts.now z.columns.now z.values.now q n

-- P holds of the design of these effects, whatever X and the offset are
abbrev pub Whatever : ℕ → Shape → List Float → Sparse → (Design → Type 0) → Type 0
Whatever n shape theta zt P = (p : ℕ) (offset x : List Float) → P (design_of n p shape theta offset x zt)

-- out is Λ'(Z'v)
abbrev pub IsSide : List Float → List Float → Design → Type 0
IsSide v out D = out ≡ side_of D v

-- where L has the lower triangle of the factor F, its solution for Λ'(Z'v) is the row at b, and nothing else has changed
abbrev pub SolvedSide : List Float → List Float → ℕ → List Float → List Float → Design → Type 0
SolvedSide v L b m m' D = (F : List Float) → SameBelow (q_of D) L F → Wrote b (q_of D) (ldl_solve (q_of D) F (side_of D v)) m m'
