-- What the last stage of the iteration that stops leaves. Document 01, "The inner fit", on stopping. Assumes nothing.
use Rattle.std.specs.Prelude.{◌≡◌, List, ℕ, ◌*◌, Float}
use Rattle.base.specs.List.{build}
use Rattle.base.specs.Rows.{row, Only, Wrote}
use Rattle.layout.specs.WorkRows.{mu_row, deviance_row}
use Rattle.layout.specs.WorkMatrices.{root_inverse_place, u_place}
use Rattle.layout.specs.WorkTerms.{factor_place, normal_place}
use Rattle.family.specs.declared.carried.CarriedFamily.{CarriedFamily}
use Rattle.family.specs.declared.carried.CarriedLink.{CarriedLink}
use Rattle.family_lists.specs.Lists.{dev_resid_at}
use Rattle.factor.specs.Inverse.{cholesky_inverse}
use Rattle.factor.specs.Triangle.{SameBelow}
use Rattle.rule.specs.Given.{Design, Given, n_of, given_of}
use Rattle.rule.specs.Solve.{Solved}
use Rattle.rule.specs.Stop.{deviances_of, deviance_sum, fit_term, laplace_of}
use Rattle.stages.specs.declared.stops.AtStop.{AtStop}

-- the deviances at the means of the work slice stand in their row, s is their sum, and nothing else has changed
pub record DeviancesLeft (family : CarriedFamily) (y weights : List Float) (n : ℕ) (r r' : List Float) (s : Float) : Type 0 where
  pub wrote : Wrote (deviance_row n) n (build (dev_resid_at family y (row (mu_row n) n r) weights) n) r r'
  pub sum : s ≡ deviance_sum n (build (dev_resid_at family y (row (mu_row n) n r) weights) n)

-- after the solve v with the means mu: the deviances in the rows, the inverse of the normal matrix's factor in the matrices, and the three numbers; nothing else has changed
pub record StopLeft (G : Given) (p q : ℕ) (v : Solved) (mu r r' m m' : List Float) (a : AtStop) : Type 0 where
  pub deviances : row (deviance_row (n_of G)) (n_of G) r' ≡ deviances_of G mu
  pub sum : a.deviance_sum ≡ deviance_sum (n_of G) (deviances_of G mu)
  pub fit_term_lem : a.fit ≡ fit_term G.family G.y mu G.weights (deviance_sum (n_of G) (deviances_of G mu))
  pub laplace_deviance : a.laplace ≡ laplace_of q v (fit_term G.family G.y mu G.weights (deviance_sum (n_of G) (deviances_of G mu)))
  pub inverse : row (root_inverse_place p q) (p * p) m' ≡ cholesky_inverse p v.root
  pub rows_only : Only (deviance_row (n_of G)) (n_of G) r r'
  pub matrices_only : Only (root_inverse_place p q) (p * p) m m'

-- for each design of n observations, and each solve whose factors have the lower triangles that stand in t and whose u stands in m
abbrev pub Stops : CarriedFamily → (y weights : List Float) (n p q : ℕ) (mu t r r' m m' : List Float) → AtStop → Type 0
Stops family y weights n p q mu t r r' m m' a =
    (link : CarriedLink) (D : Design) (v : Solved) → D.n ≡ n → SameBelow q (row factor_place (q * q) t) v.factor → SameBelow p (row (normal_place n p q) (p * p) t) v.root
    → row (u_place p q) q m ≡ v.u → StopLeft (given_of family link y weights D) p q v mu r r' m m' a
