-- What the quadrature asks of its arguments, and where the work slices hold a mode for it. Document 01, "The inner fit", on stopping. Assumes nothing.
use Rattle.std.specs.Prelude.{◌≡◌, List, ℕ, ◌*◌, ◌≤◌, length, Float}
use Rattle.base.specs.List.{build}
use Rattle.base.specs.Rows.{row}
use Rattle.base.specs.Sparse.{Sparse}
use Rattle.family.specs.declared.carried.CarriedFamily.{CarriedFamily}
use Rattle.family.specs.declared.carried.CarriedLink.{CarriedLink}
use Rattle.layout.specs.Layout.{WorkRoom}
use Rattle.layout.specs.WorkRows.{xbeta_row, deviance_row}
use Rattle.layout.specs.WorkMatrices.{system_place, u_place}
use Rattle.linear.specs.Product.{x_beta_at}
use Rattle.model.specs.declared.sizes.Shape.{Shape}
use Rattle.rule.specs.Given.{Given, n_of, q_of, design_of, given_of}
use Rattle.rule.specs.Stop.{Mode}
use Rattle.rule.specs.declared.given.Given.{Given as LentGiven}
use Rattle.solve.specs.Ready.{Ready}
use Rattle.working.specs.Optional.{Optional}

-- the lists are as long as the sizes say, Z' is in order, and the work slices have room; X is not asked for, since Xβ stands in its row
pub record Roomy (n p q : ℕ) (shape : Shape) (theta : List Float) (starts columns : List ℕ) (values offset y r m t : List Float) : Type 0 where
  pub ready : Ready shape theta starts columns values q n
  pub lent : WorkRoom n p q r m t
  pub offset_fits : Optional n offset
  pub y_long : n ≤ length y

-- the same of what is given as it is lent
abbrev pub RoomyFor : LentGiven → (r m t : List Float) → Type 0
RoomyFor g r m t =
    Roomy g.design.n g.design.p g.design.q g.design.shape g.design.theta.now g.design.zt.starts.now g.design.zt.columns.now g.design.zt.values.now
    g.design.offset.now g.y.now r m t

-- what is given, X being x
abbrev pub given_with : CarriedFamily → CarriedLink → Shape → (theta : List Float) → Sparse → (y weights offset : List Float) → (n p : ℕ) → (x : List Float) → Given
given_with family link shape theta zt y weights offset n p x = given_of family link y weights (design_of n p shape theta offset x zt)

-- the work slices hold the mode M: Xβ and the deviances in their rows, A and u in the matrices
pub record Stands (G : Given) (M : Mode) (rows matrices : List Float) : Type 0 where
  pub fixed : row (xbeta_row (n_of G)) (n_of G) rows ≡ build (x_beta_at G.design.x G.design.p M.beta) (n_of G)
  pub deviances : row (deviance_row (n_of G)) (n_of G) rows ≡ M.devs
  pub system : row system_place (q_of G.design * q_of G.design) matrices ≡ M.system
  pub u : row (u_place G.design.p (q_of G.design)) (q_of G.design) matrices ≡ M.u
