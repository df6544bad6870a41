-- L z, L being the lower triangle of a square of size k. `agq_deviance` and `agq_deviance_joint` of the Rust: all columns are summed, those past the diagonal being zero. Assumes nothing.
use Rattle.std.specs.Prelude.{List, cond, ℕ, leb, Float}
use Rattle.base.specs.Number.{◌⊗◌, zero_f}
use Rattle.base.specs.Sum.{◌!◌, sum_to}
use Rattle.base.specs.List.{at}

-- entry (i, j) of the lower triangle of M: +0.0 above the diagonal
unfoldable pub lower_at : ℕ → List Float → ℕ → ℕ → Float
lower_at k M i j = cond (leb j i) (at k M i j) zero_f

-- l_ij · z_j
unfoldable pub spread_term : ℕ → List Float → List Float → ℕ → ℕ → Float
spread_term k L z i j = lower_at k L i j ⊗ (z ! j)

-- entry i of L z: the sum over all j
unfoldable pub spread_at : ℕ → List Float → List Float → ℕ → Float
spread_at k L z i = sum_to k (spread_term k L z i)
