-- What the quadrature at a mode reads of the work slices, and what it answers and leaves. Document 01, "The inner fit", on stopping. Assumes nothing.
use Rattle.std.specs.Prelude.{Err}
use Rattle.std.specs.Prelude.{◌≡◌, List, ℕ, ◌+◌, ◌*◌, ◌≤◌, Float}
use Rattle.base.specs.Rows.{row, Only, OnlyTwo}
use Rattle.layout.specs.WorkRows.{xbeta_row, deviance_row, point_row}
use Rattle.layout.specs.WorkMatrices.{system_place, inverse_place, u_place, trial_u_place, beta_place}
use Rattle.layout.specs.WorkTerms.{terms_length}
use Rattle.quadrature.specs.declared.orders.Decline.{Decline}
use Rattle.rule.specs.Given.{Given, n_of, q_of}
use Rattle.rule.specs.Stop.{Mode}
use Rattle.agq_rule.specs.Steps.{Integrated, product_step, joint_step, quadrature_of}
use Rattle.sums.specs.Summed.{integrated_of}
use Rattle.sums.specs.declared.answers.Quadrature.{Quadrature}

-- no step is made: why
abbrev pub declined_for : Decline → Quadrature
declined_for d = record { answer = Err d; points = 0 }

-- `fit` is the fit term of the mode k, and the work slices hold its deviances, A, β and u
pub record Reads (G : Given) (k : Mode) (fit : Float) (rows matrices : List Float) : Type 0 where
  pub fit_term_lem : k.fit ≡ fit
  pub deviances : row (deviance_row (n_of G)) (n_of G) rows ≡ k.devs
  pub system : row system_place (q_of G.design * q_of G.design) matrices ≡ k.system
  pub beta : row (beta_place G.design.p (q_of G.design)) G.design.p matrices ≡ k.beta
  pub u : row (u_place G.design.p (q_of G.design)) (q_of G.design) matrices ≡ k.u

-- the answer tells what `rule` says at every mode that the work slices hold; nothing has changed but the rows of Xβ, Zb and the marks, the factor of a block, the effects at a point with Λ times them and its nodes, and the terms
pub record QuadratureLeft (G : Given) (rule : Mode → Integrated) (fit : Float) (r r' m m' t t' : List Float) (a : Quadrature) : Type 0 where
  pub told : (k : Mode) → Reads G k fit r m → rule k ≡ integrated_of a
  pub few : a.points ≤ 7000
  pub rows_only : OnlyTwo (xbeta_row (n_of G)) (n_of G) (point_row (n_of G)) (n_of G + n_of G) r r'
  pub matrices_only : OnlyTwo (inverse_place (q_of G.design)) (q_of G.design * q_of G.design) (trial_u_place G.design.p (q_of G.design)) (q_of G.design + q_of G.design + q_of G.design) m m'
  pub terms_only : Only 0 terms_length t t'

-- the same of the product rule for `groups` groups of k effects
abbrev pub ProductAt : Given → (wish groups k : ℕ) → (phi fit : Float) → (r r' m m' t t' : List Float) → Quadrature → Type 0
ProductAt G wish groups k phi fit r r' m m' t t' a = QuadratureLeft G (λ M. product_step G wish M phi groups k) fit r r' m m' t t' a

-- the same of the joint rule
abbrev pub JointAt : Given → (wish : ℕ) → (phi fit : Float) → (r r' m m' t t' : List Float) → Quadrature → Type 0
JointAt G wish phi fit r r' m m' t t' a = QuadratureLeft G (λ M. joint_step G wish M phi) fit r r' m m' t t' a

-- the same of the quadrature by the number of blocks
abbrev pub QuadratureAt : Given → (wish : ℕ) → (phi fit : Float) → (r r' m m' t t' : List Float) → Quadrature → Type 0
QuadratureAt G wish phi fit r r' m m' t t' a = QuadratureLeft G (λ M. quadrature_of G wish M phi) fit r r' m m' t t' a
