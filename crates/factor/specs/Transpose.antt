-- The transpose of a square, and the exchanges that make it in place. Assumes nothing.
use Rattle.std.specs.Prelude.{List, ℕ, zero, suc, ◌+◌, ◌*◌, set, Float}
use Rattle.base.specs.Sum.{◌!◌}
use Rattle.base.specs.List.{at}

-- entry (i, j) of the transpose of M
unfoldable pub turned_at : ℕ → List Float → ℕ → ℕ → Float
turned_at s M i j = at s M j i

-- X with the entries at p and q exchanged
unfoldable pub swapped : ℕ → ℕ → List Float → List Float
swapped p q X = set (set X p (X ! q)) q (X ! p)

-- X with the first n entries of row i and of column i exchanged
unfoldable pub row_turned : ℕ → ℕ → ℕ → List Float → List Float
row_turned s i zero X = X
row_turned s i (suc n) X = swapped (i * s + n) (n * s + i) (row_turned s i n X)

-- X with the rows and columns of its leading n by n square exchanged
unfoldable pub square_turned : ℕ → ℕ → List Float → List Float
square_turned s zero X = X
square_turned s (suc n) X = row_turned s n n (square_turned s n X)
