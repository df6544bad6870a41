-- What the parts of a solve leave in the work slices. Document 01, "The inner fit", from A to the raw predictor; ends 10 and 11. Assumes nothing.
use Rattle.model.specs.declared.ends.End.{End}
use Rattle.std.specs.Prelude.{Result, Ok, Err, ⊤}
use Prim.{tt}
use Rattle.std.specs.Prelude.{◌≡◌, List, ℕ, ◌+◌, ◌*◌, ◌≤◌, length, Float}
use Rattle.base.specs.Rows.{row, Only}
use Rattle.factor.specs.Factor.{cholesky_of, cholesky_end}
use Rattle.base.specs.Sparse.{Sparse}
use Rattle.factor.specs.Substitution.{ldl_solve, cholesky_solve}
use Rattle.factor.specs.Triangle.{SameBelow}
use Rattle.layout.specs.WorkRows.{raw_row, weighted_row, working_row}
use Rattle.layout.specs.WorkMatrices.{system_place, solved_place, wy_place, u_place, beta_place, matrices_length}
use Rattle.layout.specs.WorkTerms.{factor_place, w_place, unsolved_place, normal_place, spare_place, terms_length}
use Rattle.rule.specs.Given.{Design, q_of, design_of}
use Rattle.model.specs.declared.sizes.Shape.{Shape}
use Rattle.rule.specs.Solve.{Solve, solved, unsolved, side_of, solved_columns, normal_of, normal_side, effects_after, b_of, raw_of, solve_working}
use Rattle.iteration.specs.Held.{Prepared, HeldSolved}

-- ---- the right sides

-- F being the factor of A: wy, the columns W, the normal matrix and its right side; A, its factor, w and z are as they were
pub record SidesLeft (q : ℕ) (D : Design) (F w target weighted m m' t t' : List Float) : Type 0 where
  pub wy : row (wy_place D.p q) q m' ≡ ldl_solve q F (side_of D weighted)
  pub solved : row (solved_place q) (D.p * q) m' ≡ solved_columns D F w
  pub side : row (beta_place D.p q) D.p m' ≡ normal_side D w target (ldl_solve q F (side_of D weighted))
  pub normal : SameBelow D.p (row (normal_place D.n D.p q) (D.p * D.p) t') (normal_of D w (solved_columns D F w))
  pub system_kept : row system_place (q * q) m' ≡ row system_place (q * q) m
  pub matrices_only : Only 0 (matrices_length D.p q) m m'
  pub terms_only : Only (unsolved_place D.n q) (q * D.p + D.p * D.p) t t'

-- for each factor whose lower triangle stands at the front of the terms
abbrev pub SidesOf : (n p q : ℕ) → Shape → (theta x : List Float) → Sparse → (r m m' t t' : List Float) → Type 0
SidesOf n p q shape theta x zt r m m' t t' = (F offset : List Float) → SameBelow q (row factor_place (q * q) t) F
    → SidesLeft q (design_of n p shape theta offset x zt) F (row (w_place q) n t) (row (working_row n) n r) (row (weighted_row n) n r) m m' t t'

-- ---- the normal matrix's factor, and β

-- N being the matrix whose lower triangle stands there: its factor's end; where it was found, the factor over it and β over its right side
pub record RootLeft (n p q : ℕ) (N m m' t t' : List Float) (r : Result ⊤ ℕ) : Type 0 where
  pub end : r ≡ cholesky_end p N (cholesky_of p N)
  pub root : r ≡ (Ok tt) → SameBelow p (row (normal_place n p q) (p * p) t') (cholesky_of p N)
  pub beta : r ≡ (Ok tt) → row (beta_place p q) p m' ≡ cholesky_solve p (cholesky_of p N) (row (beta_place p q) p m)
  pub matrices_only : Only (beta_place p q) p m m'
  pub terms_only : Only (normal_place n p q) (p * p) t t'

-- for each such N
abbrev pub RootSolved : (n p q : ℕ) (m m' t t' : List Float) → Result ⊤ ℕ → Type 0
RootSolved n p q m m' t t' r = (N : List Float) → p * p ≤ length N → SameBelow p (row (normal_place n p q) (p * p) t) N → RootLeft n p q N m m' t t' r

-- ---- u, b and the raw predictor

-- from wy, the columns W and β, as they stand in the matrices: u and the raw predictor; nothing has changed but their pieces, that of b and the spare one
pub record RawLeft (D : Design) (wy W beta r r' m m' t t' : List Float) : Type 0 where
  pub u : row (u_place D.p (q_of D)) (q_of D) m' ≡ effects_after D wy W beta
  pub raw : row (raw_row D.n) D.n r' ≡ raw_of D beta (b_of D (effects_after D wy W beta))
  pub rows_only : Only (raw_row D.n) D.n r r'
  pub matrices_only : Only (u_place D.p (q_of D)) (q_of D + q_of D) m m'
  pub terms_only : Only (spare_place D.n D.p (q_of D)) (q_of D) t t'

-- ---- the solve

-- the answer says what the rule's solve is: the work slices hold what it found, or both have the same end
abbrev pub SolveTold : Result ⊤ End → Solve → Design → (rows matrices terms : List Float) → Type 0
SolveTold (Ok tt) (solved v) D r m t = HeldSolved D v r m t
SolveTold (Ok tt) (unsolved e) D r m t = ⊥
SolveTold (Err e) (solved v) D r m t = ⊥
SolveTold (Err e) (unsolved f) D r m t = e ≡ f

-- the solve s is told; the two predictors and the means are as they were, and so is all behind the named lengths
pub record SolveLeft (D : Design) (s : Solve) (r r' m m' t t' : List Float) (a : Result ⊤ End) : Type 0 where
  pub told : SolveTold a s D r' m' t'
  pub rows_only : Only (raw_row D.n) (13 * D.n) r r'
  pub matrices_only : Only 0 (matrices_length D.p (q_of D)) m m'
  pub terms_only : Only 0 terms_length t t'

-- with the w and z that were prepared
abbrev pub SolvesWorking : Design → (r r' m m' t t' : List Float) → Result ⊤ End → Type 0
SolvesWorking D r r' m m' t t' a = (w z : List Float) → Prepared D w z r t → SolveLeft D (solve_working D w z) r r' m m' t t' a
