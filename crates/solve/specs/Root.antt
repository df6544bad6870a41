-- What the normal matrix's factorisation and the solution for β leave. Document 01, "The inner fit": β, and end 11. Assumes nothing.
use Rattle.std.specs.Prelude.{Result, Ok, ⊤, ◌≡◌, List, ℕ, ◌*◌, ◌≤◌, length, Float}
use Prim.{tt}
use Rattle.base.specs.Rows.{row, Only, Wrote}
use Rattle.factor.specs.Factor.{cholesky_of, cholesky_end}
use Rattle.factor.specs.Substitution.{cholesky_solve}
use Rattle.factor.specs.Triangle.{SameBelow}

-- N being the matrix whose lower triangle stands at b: its factor's end r; where it was found the factor stands there; nothing else has changed
pub record RootLeaves (b p : ℕ) (N t t' : List Float) (r : Result ⊤ ℕ) : Type 0 where
  pub end : r ≡ cholesky_end p N (cholesky_of p N)
  pub lower : r ≡ (Ok tt) → SameBelow p (row b (p * p) t') (cholesky_of p N)
  pub frame : Only b (p * p) t t'

-- for each such N
abbrev pub RootOf : ℕ → ℕ → List Float → List Float → Result ⊤ ℕ → Type 0
RootOf b p t t' r = (N : List Float) → p * p ≤ length N → SameBelow p (row b (p * p) t) N → RootLeaves b p N t t' r

-- where L has the lower triangle of the factor C, its solution for the row at b stands there, and nothing else has changed
abbrev pub SolvedBeta : ℕ → ℕ → List Float → List Float → List Float → Type 0
SolvedBeta b p L m m' = (C : List Float) → SameBelow p L C → Wrote b p (cholesky_solve p C (row b p m)) m m'
