-- The nine results of a fitted call, made of the last mode. Document 01, "Numbers of an answer", number 0, and "The job and the program", the names of the results. Assumes nothing.
use Rattle.std.specs.Prelude.{List, ℕ, Float}
use Rattle.base.specs.List.{build}
use Rattle.model.specs.Shape.{effects_of}
use Rattle.model.specs.declared.sizes.Shape.{Shape}
use Rattle.factor.specs.Inverse.{cholesky_inverse}
use Rattle.lambda.specs.Product.{lambda_times_at}
use Rattle.rule.specs.Given.{Given, n_of}
use Rattle.rule.specs.Stop.{Mode}
use Rattle.rule.specs.Results.{v_from, se_of, z_values, residuals_of}

-- what a fitted call writes whole
pub record Results : Type 0 where
  pub beta : List Float
  pub se : List Float
  pub z : List Float
  pub u : List Float
  pub b : List Float
  pub mu : List Float
  pub eta : List Float
  pub residual : List Float
  pub v : List Float

-- nine lists, in the order in which they are printed
abbrev pub nine : List Float → List Float → List Float → List Float → List Float → List Float → List Float → List Float → List Float → Results
nine beta se z u b mu eta residual v = record { beta = beta; se = se; z = z; u = u; b = b; mu = mu; eta = eta; residual = residual; v = v }

-- β, u, mu and eta as they are; v from the columns of the inverse of the normal matrix's factor; standard errors, z values, b = Λu and residuals from these
unfoldable pub results_from : ℕ → ℕ → Shape → List Float → List Float → List Float → List Float → List Float → List Float → List Float → Results
results_from n p shape theta y columns beta u mu eta =
    let v = v_from p columns in
    let se = se_of p v in
    nine beta se (z_values p beta se) u (build (lambda_times_at shape theta u) (effects_of shape)) mu eta (residuals_of n y mu) v

-- the results of a mode; phi does not enter
unfoldable pub results_of : Given → Mode → Results
results_of G M =
    results_from (n_of G) G.design.p G.design.shape G.design.theta G.y (cholesky_inverse G.design.p M.root) M.beta M.u M.mu M.eta
