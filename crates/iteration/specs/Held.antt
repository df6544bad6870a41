-- What the work slices hold of a solve. Document 01, "The inner fit". Assumes nothing.
use Rattle.std.specs.Prelude.{◌≡◌, List, ◌*◌, Float}
use Rattle.base.specs.Rows.{row}
use Rattle.factor.specs.Triangle.{SameBelow}
use Rattle.layout.specs.WorkRows.{raw_row, weighted_row, working_row}
use Rattle.layout.specs.WorkMatrices.{system_place, u_place, beta_place}
use Rattle.layout.specs.WorkTerms.{factor_place, w_place, z_place, normal_place}
use Rattle.rule.specs.Given.{Design, q_of}
use Rattle.rule.specs.Working.{targets, weighted_targets}
use Rattle.rule.specs.Solve.{Solved}

-- w and z of an iteration, what X and Z are fitted to, and that times w
pub record Prepared (D : Design) (w z rows terms : List Float) : Type 0 where
  pub weights : row (w_place (q_of D)) D.n terms ≡ w
  pub responses : row (z_place D.n (q_of D)) D.n terms ≡ z
  pub target : row (working_row D.n) D.n rows ≡ targets D z
  pub weighted : row (weighted_row D.n) D.n rows ≡ weighted_targets D w (targets D z)

-- a solve: of A's factor and of the normal matrix's factor the lower triangle
pub record HeldSolved (D : Design) (v : Solved) (rows matrices terms : List Float) : Type 0 where
  pub w : row (w_place (q_of D)) D.n terms ≡ v.w
  pub z : row (z_place D.n (q_of D)) D.n terms ≡ v.z
  pub system : row system_place (q_of D * q_of D) matrices ≡ v.system
  pub factor : SameBelow (q_of D) (row factor_place (q_of D * q_of D) terms) v.factor
  pub root : SameBelow D.p (row (normal_place D.n D.p (q_of D)) (D.p * D.p) terms) v.root
  pub beta : row (beta_place D.p (q_of D)) D.p matrices ≡ v.beta
  pub u : row (u_place D.p (q_of D)) (q_of D) matrices ≡ v.u
  pub raw : row (raw_row D.n) D.n rows ≡ v.raw
