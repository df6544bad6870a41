-- The lengths of the work buffers that a caller must lend, and 0 where the sizes are not carried. Document 01, "What the port carries", its sizes, and "Numbers of an answer", number 7. Assumes nothing.
use Rattle.std.specs.Prelude.{cond, ℕ}
use Rattle.model.specs.Shape.{within}
use Rattle.layout.specs.WorkRows.{rows_length}
use Rattle.layout.specs.WorkMatrices.{matrices_length}

-- x where k is from 1 to most, else 0
unfoldable pub when_in : ℕ → ℕ → ℕ → ℕ
when_in most k x = cond (within 1 most k) x 0

-- the length of `rows` for n observations
abbrev pub rows_asked : ℕ → ℕ
rows_asked n = when_in 512 n (rows_length n)

-- the length of `matrices` for p columns of X and q effects
abbrev pub matrices_asked : ℕ → ℕ → ℕ
matrices_asked p q = when_in 16 p (when_in 32 q (matrices_length p q))
