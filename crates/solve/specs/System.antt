-- What `factor_system` leaves. Document 01, "The inner fit": A and its factor, and end 10. Assumes nothing.
use Rattle.std.specs.Prelude.{Result, Ok, ⊤, ◌≡◌, List, ℕ, ◌*◌, Float}
use Prim.{tt}
use Rattle.base.specs.Rows.{row, Only, Wrote}
use Rattle.factor.specs.Factor.{ldl_end}
use Rattle.factor.specs.Triangle.{SameBelow}
use Rattle.rule.specs.Given.{Design, q_of}
use Rattle.rule.specs.Solve.{system_of, factor_of}

-- with A from the weights w: its factor's end r; A at the front of the matrices; the factor at the front of the terms where it was found; nothing else has changed
pub record SystemLeaves (w t t' m m' : List Float) (r : Result ⊤ ℕ) (D : Design) : Type 0 where
  pub end : r ≡ ldl_end (q_of D) (factor_of D (system_of D w))
  pub system : Wrote 0 (q_of D * q_of D) (system_of D w) m m'
  pub lower : r ≡ (Ok tt) → SameBelow (q_of D) (row 0 (q_of D * q_of D) t') (factor_of D (system_of D w))
  pub frame : Only 0 (q_of D * q_of D) t t'
