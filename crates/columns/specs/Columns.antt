-- What the columns of X leave in the work slices. Document 01, "The inner fit": the columns V and W, the normal matrix and its right side. Assumes nothing.
use Rattle.std.specs.Prelude.{◌≡◌, List, ℕ, ◌+◌, ◌*◌, Float}
use Rattle.base.specs.Rows.{row, Only}
use Rattle.base.specs.Sparse.{Sparse}
use Rattle.model.specs.declared.sizes.Shape.{Shape}
use Rattle.layout.specs.WorkRows.{working_row}
use Rattle.layout.specs.WorkMatrices.{system_place, solved_place, wy_place, beta_place, matrices_length}
use Rattle.layout.specs.WorkTerms.{factor_place, w_place, unsolved_place, normal_place}
use Rattle.factor.specs.Triangle.{SameBelow}
use Rattle.rule.specs.Given.{Design, design_of}
use Rattle.rule.specs.Solve.{solved_columns, normal_of, normal_side}

-- W, the normal matrix's right side in the place of β, and the normal matrix's lower triangle; A, wy, the factor of A, w and z are as they were
pub record ColumnsLeft (q : ℕ) (D : Design) (F w target wy m m' t t' : List Float) : Type 0 where
  pub solved : row (solved_place q) (D.p * q) m' ≡ solved_columns D F w
  pub side : row (beta_place D.p q) D.p m' ≡ normal_side D w target wy
  pub normal : SameBelow D.p (row (normal_place D.n D.p q) (D.p * D.p) t') (normal_of D w (solved_columns D F w))
  pub system_kept : row system_place (q * q) m' ≡ row system_place (q * q) m
  pub wy_kept : row (wy_place D.p q) q m' ≡ row (wy_place D.p q) q m
  pub matrices_only : Only 0 (matrices_length D.p q) m m'
  pub terms_only : Only (unsolved_place D.n q) (q * D.p + D.p * D.p) t t'

-- for each factor whose lower triangle stands at the front of the terms
abbrev pub ColumnsOf : ℕ → ℕ → ℕ → Shape → List Float → List Float → Sparse → List Float → List Float → List Float → List Float → List Float → Type 0
ColumnsOf n p q shape theta x zt r m m' t t' = (F offset : List Float) → SameBelow q (row factor_place (q * q) t) F
    → ColumnsLeft q (design_of n p shape theta offset x zt) F (row (w_place q) n t) (row (working_row n) n r) (row (wy_place p q) q m) m m' t t'
