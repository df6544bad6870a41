-- Inverses, column by column, and v. Document 01, "The inner fit", on stopping. Assumes nothing.
use Rattle.std.specs.Prelude.{List, cond, ℕ, eqb, Float}
use Rattle.base.specs.Number.{zero_f, one_f}
use Rattle.base.specs.Sum.{◌!◌}
use Rattle.base.specs.List.{build, matrix}
use Rattle.factor.specs.Triangle.{rows_dot}
use Rattle.factor.specs.Substitution.{ldl_solve, forward}

-- entry i of column c of the unit matrix
unfoldable pub unit_at : ℕ → ℕ → Float
unit_at c i = cond (eqb i c) one_f zero_f

-- column c of the unit matrix of size s
unfoldable pub unit_column : ℕ → ℕ → List Float
unit_column s c = build (unit_at c) s

-- column c of the inverse, solved through LDL'
unfoldable pub ldl_column : ℕ → List Float → ℕ → List Float
ldl_column s L c = ldl_solve s L (unit_column s c)

-- entry (i, c) of the inverse: entry i of the solution of column c
unfoldable pub ldl_inverse_at : ℕ → List Float → ℕ → ℕ → Float
ldl_inverse_at s L i c = ldl_column s L c ! i

-- entry i of its column c, where columns stand one behind the other
unfoldable pub ldl_column_at : ℕ → List Float → ℕ → ℕ → Float
ldl_column_at s L c i = ldl_inverse_at s L i c

-- the inverse through LDL'
unfoldable pub ldl_inverse : ℕ → List Float → List Float
ldl_inverse s L = matrix s s (ldl_inverse_at s L)

-- column c of the inverse of the Cholesky factor L
unfoldable pub cholesky_column : ℕ → List Float → ℕ → List Float
cholesky_column s L c = forward s L (unit_column s c)

-- entry i of column c of that inverse
unfoldable pub cholesky_column_at : ℕ → List Float → ℕ → ℕ → Float
cholesky_column_at s L c i = cholesky_column s L c ! i

-- that inverse, its columns one behind the other
unfoldable pub cholesky_inverse : ℕ → List Float → List Float
cholesky_inverse s L = matrix s s (cholesky_column_at s L)

-- entry (a, b) of v, the inverse being given by its columns C: the sum of inv_ia · inv_ib over all its rows i
unfoldable pub v_at : ℕ → List Float → ℕ → ℕ → Float
v_at p C a b = rows_dot p (λ t. C ! t) a b p
