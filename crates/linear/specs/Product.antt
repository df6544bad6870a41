-- Products with X, a matrix of p columns. Document 01, "The inner fit": one rounding for each product and each addition. Assumes nothing.
use Rattle.std.specs.Prelude.{List, ℕ, ◌*◌, Float}
use Rattle.base.specs.Number.{◌⊖◌, ◌⊗◌}
use Rattle.base.specs.Sum.{◌!◌, sum_to, product_from}
use Rattle.base.specs.List.{at, build}

-- entry i of Xβ: row i of X times β
abbrev pub x_beta_at : List Float → ℕ → List Float → ℕ → Float
x_beta_at x p beta i = sum_to p (product_from x (i * p) beta)

-- entry i of the column x_a·w
abbrev pub xw_at : List Float → ℕ → List Float → ℕ → ℕ → Float
xw_at x p w a i = at p x i a ⊗ (w ! i)

-- what observation i adds to v times column b of X
abbrev pub column_term : List Float → ℕ → List Float → ℕ → ℕ → Float
column_term x p v b i = (v ! i) ⊗ at p x i b

-- v times column b of X; where v is the column x_a·w, entry (a, b) of X'WX
abbrev pub column_dot : List Float → ℕ → ℕ → List Float → ℕ → Float
column_dot x p n v b = sum_to n (column_term x p v b)

-- entry (a, b) of X'WX: the column x_a·w times column b of X
unfoldable pub cross_at : List Float → ℕ → ℕ → List Float → ℕ → ℕ → Float
cross_at x p n w a b = column_dot x p n (build (xw_at x p w a) n) b

-- W_j[i]·β_j, the columns of W being q long and one behind the other
abbrev pub solved_term : List Float → ℕ → List Float → ℕ → ℕ → Float
solved_term W q beta i j = at q W j i ⊗ (beta ! j)

-- u_i: wy_i less the sum of W_j[i]·β_j over the columns
unfoldable pub effect_at : List Float → List Float → ℕ → ℕ → List Float → ℕ → Float
effect_at wy W q p beta i = (wy ! i) ⊖ sum_to p (solved_term W q beta i)

-- v[i]·W_b[i], v being a column unsolved and W the columns solved
abbrev pub mixed_term : List Float → List Float → ℕ → ℕ → ℕ → Float
mixed_term v W q b i = (v ! i) ⊗ at q W b i

-- entry b of a row of the normal matrix: that of X'WX, by the column xw, less v·W_b
unfoldable pub normal_at : List Float → ℕ → ℕ → List Float → List Float → List Float → ℕ → ℕ → Float
normal_at x p n xw v W q b = column_dot x p n xw b ⊖ sum_to q (mixed_term v W q b)
