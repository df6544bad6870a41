-- What is made of a mode for the results: v, standard errors, z values, residuals. Document 01, "The inner fit", on stopping. Assumes nothing.
use Rattle.std.specs.Prelude.{List, cond, ℕ, Float}
use Rattle.std.specs.Float.Ieee.{lt}
use Rattle.base.specs.Number.{◌⊖◌, ◌⊘◌, zero_f}
use Rattle.base.specs.Sum.{◌!◌}
use Rattle.base.specs.List.{build, matrix, at}
use Rattle.root.specs.Sqrt.{sqrt_of}
use Rattle.factor.specs.Inverse.{cholesky_inverse, v_at}

-- v, from the columns of the inverse of the normal matrix's factor
unfoldable pub v_from : ℕ → List Float → List Float
v_from p columns = matrix p p (v_at p columns)

-- v, C being the normal matrix's factor
unfoldable pub v_of : ℕ → List Float → List Float
v_of p C = v_from p (cholesky_inverse p C)

-- the standard error of β_a: the root of v_aa
unfoldable pub se_at : ℕ → List Float → ℕ → Float
se_at p v a = sqrt_of (at p v a a)

-- the standard errors
unfoldable pub se_of : ℕ → List Float → List Float
se_of p v = build (se_at p v) p

-- the z value of β_a: β / se where se is above zero, else +0.0
unfoldable pub z_value_at : List Float → List Float → ℕ → Float
z_value_at beta se a = cond (lt zero_f (se ! a)) ((beta ! a) ⊘ (se ! a)) zero_f

-- the z values
unfoldable pub z_values : ℕ → List Float → List Float → List Float
z_values p beta se = build (z_value_at beta se) p

-- y - mu
unfoldable pub residual_at : List Float → List Float → ℕ → Float
residual_at y mu i = (y ! i) ⊖ (mu ! i)

-- the residuals
unfoldable pub residuals_of : ℕ → List Float → List Float → List Float
residuals_of n y mu = build (residual_at y mu) n
