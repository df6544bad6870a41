-- Products with Z', which is stored by its rows. Document 01, "The inner fit": its sums go over the observations that a row stores, ascending. Assumes nothing.
use Rattle.std.specs.Prelude.{List, ℕ, Float}
use Rattle.base.specs.Number.{◌⊗◌}
use Rattle.base.specs.Sum.{◌!◌, add_where, sum_where}
use Rattle.base.specs.Sparse.{Sparse, stored, value_at, row_sum, both_sum}

-- what observation i adds to entry a of Z'v
unfoldable pub stored_term : Sparse → List Float → ℕ → ℕ → Float
stored_term Z v a i = value_at Z a i ⊗ (v ! i)

-- entry a of Z'v: the sum over the observations that row a stores
unfoldable pub zt_times_at : Sparse → ℕ → List Float → ℕ → Float
zt_times_at Z n v a = row_sum Z n a (stored_term Z v a)

-- what observation i adds to entry (a, b) of Z'WZ: (z_a·z_b)·w
unfoldable pub weighted_term : Sparse → List Float → ℕ → ℕ → ℕ → Float
weighted_term Z w a b i = (value_at Z a i ⊗ value_at Z b i) ⊗ (w ! i)

-- entry (a, b) of Z'WZ: the sum over the observations that both rows store
unfoldable pub ztwz_at : Sparse → ℕ → List Float → ℕ → ℕ → Float
ztwz_at Z n w a b = both_sum Z n a b (weighted_term Z w a b)

-- what row a adds to entry i of Zb
unfoldable pub effect_term : Sparse → List Float → ℕ → ℕ → Float
effect_term Z b i a = value_at Z a i ⊗ (b ! a)

-- entry i of Zb: the sum over the rows that store observation i
unfoldable pub z_times_at : Sparse → ℕ → List Float → ℕ → Float
z_times_at Z rows b i = sum_where rows (λ a. stored Z a i) (effect_term Z b i)

-- v_i, and what row a adds to it where the row stores observation i
unfoldable pub added_at : Sparse → List Float → ℕ → List Float → ℕ → Float
added_at Z b a v i = add_where (stored Z a i) (v ! i) (effect_term Z b i a)

-- the three lent lists as one matrix
abbrev pub sparse : List ℕ → List ℕ → List Float → Sparse
sparse starts columns values = record { starts = starts; columns = columns; values = values }
