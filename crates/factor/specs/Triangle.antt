-- A lower triangle of size s that is written row by row, and how far a factorisation comes. Document 01, "The inner fit". Assumes nothing.
use Rattle.std.specs.Prelude.{◌≡◌, List, Bool, true, false, not, ◌&&◌, cond, ℕ, zero, suc, ◌+◌, ◌*◌, ◌<◌, ◌≤◌, ltb, eqb, Float, Result, Ok, Err, ⊤}
use Prim.{tt}
use Rattle.std.specs.Float.Ieee.{lt, eq}
use Rattle.base.specs.Number.{◌⊗◌, zero_f, finite}
use Rattle.base.specs.Sum.{sum_to}
use Rattle.base.specs.List.{at}
use Rattle.base.specs.InPlace.{Rule, ruled}

-- entry (i, j) of a matrix of s columns whose entries a rule looks at
abbrev pub cell : ℕ → (ℕ → Float) → ℕ → ℕ → Float
cell s x i j = x (i * s + j)

-- the sum of x_ik · x_jk over the first n columns
unfoldable pub rows_dot : ℕ → (ℕ → Float) → ℕ → ℕ → ℕ → Float
rows_dot s x i j n = sum_to n (λ k. cell s x i k ⊗ cell s x j k)

-- what entry (i, j) becomes: one value below the diagonal, one on it, one above it
unfoldable pub triangle : ℕ → ℕ → Float → Float → Float → Float
triangle i j below on above = cond (ltb j i) below (cond (eqb j i) on above)

-- X with the n entries from o on replaced in ascending order by the rule
unfoldable pub row_by : Rule → ℕ → ℕ → List Float → List Float
row_by g o zero X = X
row_by g o (suc n) X = ruled g (o + n) (row_by g o n X)

-- two matrices have the same lower triangle
abbrev pub SameBelow : ℕ → List Float → List Float → Type 0
SameBelow s F G = (i j : ℕ) → i < s → j ≤ i → at s F i j ≡ at s G i j

-- ---- pivots

-- the test of number 10: a pivot that is neither zero nor other than finite
unfoldable pub usable : Float → Bool
usable d = finite d && not (eq d zero_f)

-- the test of number 11: a pivot that is above zero and finite
unfoldable pub positive : Float → Bool
positive d = lt zero_f d && finite d

-- the end so far, or by the test of pivot i
unfoldable pub and_then : Result ⊤ ℕ → ℕ → Bool → Result ⊤ ℕ
and_then (Err k) i t = Err k
and_then (Ok tt) i true = Ok tt
and_then (Ok tt) i false = Err i

-- the first of n pivots that fails the test, if one does
unfoldable pub first_bad : ℕ → (ℕ → Bool) → Result ⊤ ℕ
first_bad zero t = Ok tt
first_bad (suc n) t = and_then (first_bad n t) n (t n)

-- how many places of the square, row by row, a factorisation with this end has written: all, or those before the pivot that failed
unfoldable pub reach : ℕ → Result ⊤ ℕ → ℕ
reach s (Ok tt) = s * s
reach s (Err i) = i * s + i
