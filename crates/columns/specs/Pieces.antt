-- What the steps over all columns of X leave, each in its place of a work slice. Document 01, "The inner fit": the columns V and W, the normal matrix and its right side. Assumes nothing.
use Rattle.std.specs.Prelude.{◌≡◌, List, ℕ, ◌+◌, ◌*◌, ◌<◌, ◌≤◌, Float}
use Rattle.base.specs.Number.{◌⊖◌}
use Rattle.base.specs.Sum.{◌!◌, sum_to, dot_of}
use Rattle.base.specs.List.{at, build}
use Rattle.base.specs.Rows.{row, Only}
use Rattle.model.specs.declared.sizes.Shape.{Shape}
use Rattle.lambda.specs.Product.{lambda_transposed_at}
use Rattle.linear.specs.Product.{mixed_term}

-- entry g of column a of S, a matrix of p columns
abbrev pub column_at : List Float → ℕ → ℕ → ℕ → Float
column_at S p a g = at p S g a

-- entry j of V_a: Λ' times column a of the q rows of S, which are Z'(x_a·w) for each a
unfoldable pub unsolved_at : Shape → List Float → List Float → ℕ → ℕ → ℕ → ℕ → Float
unsolved_at shape theta S p q a j = lambda_transposed_at shape theta (build (column_at S p a) q) j

-- entry (a, b) of C less V_a-as-W_b, C being X'WX; the columns V, given by v, and W are q long and one behind the other
unfoldable pub less_mixed : List Float → List Float → List Float → ℕ → ℕ → ℕ → ℕ → Float
less_mixed C v W p q a b = at p C a b ⊖ sum_to q (mixed_term (row (a * q) q v) W q b)

-- entry a of s less V_a·y, the columns V given by v
unfoldable pub less_solved : List Float → List Float → List Float → ℕ → ℕ → Float
less_solved s v y q a = (s ! a) ⊖ dot_of q (row (a * q) q v) y

-- the square of size p at b has the entries f up to its diagonal, and nothing else has changed
pub record LowerWrote (b p : ℕ) (f : ℕ → ℕ → Float) (v w : List Float) : Type 0 where
  pub below : (i j : ℕ) → i < p → j ≤ i → w ! (b + (i * p + j)) ≡ f i j
  pub only : Only b (p * p) v w
