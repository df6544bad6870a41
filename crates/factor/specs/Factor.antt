-- LDL' and Cholesky, from the lower triangle of an s by s matrix. Document 01, "The inner fit", its sentences on pivots.
-- L stands below the diagonal and d on it; what stands above it is neither read nor written. Assumes nothing.
use Rattle.std.specs.Prelude.{◌≡◌, List, Bool, ℕ, ◌*◌, ◌/◌, ◌%◌, Float, Result, ⊤}
use Rattle.base.specs.Number.{◌⊖◌, ◌⊗◌, ◌⊘◌}
use Rattle.base.specs.Sum.{◌!◌, sum_to}
use Rattle.base.specs.List.{at}
use Rattle.base.specs.InPlace.{Rule, fill_by}
use Rattle.root.specs.Sqrt.{sqrt_of}
use Rattle.factor.specs.Triangle.{cell, rows_dot, triangle, usable, positive, first_bad, reach}

-- ---- LDL'

-- (l of row i · l of row j)·d of column k
unfoldable pub ldl_term : ℕ → (ℕ → Float) → ℕ → ℕ → ℕ → Float
ldl_term s x i j k = (cell s x i k ⊗ cell s x j k) ⊗ cell s x k k

-- their sum over the columns before j
unfoldable pub ldl_sum : ℕ → (ℕ → Float) → ℕ → ℕ → Float
ldl_sum s x i j = sum_to j (ldl_term s x i j)

-- the pivot d_i: the diagonal entry a less the sum of (l·l)·d over earlier columns
unfoldable pub ldl_pivot : ℕ → ℕ → (ℕ → Float) → Float → Float
ldl_pivot s i x a = a ⊖ ldl_sum s x i i

-- the entry l_ij below: its matrix entry a less the sum of (l of its row · l of the pivot's row)·d, divided by the pivot
unfoldable pub ldl_below : ℕ → ℕ → ℕ → (ℕ → Float) → Float → Float
ldl_below s i j x a = (a ⊖ ldl_sum s x i j) ⊘ cell s x j j

-- entry t, which is (t / s, t % s), of the factor of A
unfoldable pub ldl_rule : ℕ → List Float → Rule
ldl_rule s A t x o = triangle (t / s) (t % s) (ldl_below s (t / s) (t % s) x (A ! t)) (ldl_pivot s (t / s) x (A ! t)) o

-- the factor of A, written over b
unfoldable pub ldl_of : ℕ → List Float → List Float → List Float
ldl_of s A b = fill_by (ldl_rule s A) (s * s) b

-- pivot i of the factor F can be divided by
unfoldable pub ldl_passes : ℕ → List Float → ℕ → Bool
ldl_passes s F i = usable (at s F i i)

-- the end of LDL' with the factor F: the first pivot that is zero or not finite, if there is one
unfoldable pub ldl_end : ℕ → List Float → Result ⊤ ℕ
ldl_end s F = first_bad s (ldl_passes s F)

-- what `ldl` answers and leaves in b: the end, and the entries before it
pub record LdlLeaves (s : ℕ) (A b : List Float) (r : Result ⊤ ℕ) (X : List Float) : Type 0 where
  pub end : r ≡ ldl_end s (ldl_of s A b)
  pub out : X ≡ fill_by (ldl_rule s A) (reach s r) b

-- ---- Cholesky: the same without d, dividing by the pivot's square root

-- the pivot: the diagonal entry a less the sum of l·l over earlier columns
unfoldable pub cholesky_pivot : ℕ → ℕ → (ℕ → Float) → Float → Float
cholesky_pivot s i x a = a ⊖ rows_dot s x i i i

-- the entry l_ij below: its matrix entry a less the sum of l of its row · l of the pivot's row, divided by the pivot's square root
unfoldable pub cholesky_below : ℕ → ℕ → ℕ → (ℕ → Float) → Float → Float
cholesky_below s i j x a = (a ⊖ rows_dot s x i j j) ⊘ cell s x j j

-- entry t of the factor, from the matrix entry a that stood there
unfoldable pub cholesky_rule : ℕ → Rule
cholesky_rule s t x a = triangle (t / s) (t % s) (cholesky_below s (t / s) (t % s) x a) (sqrt_of (cholesky_pivot s (t / s) x a)) a

-- the factor of A, written over it
unfoldable pub cholesky_of : ℕ → List Float → List Float
cholesky_of s A = fill_by (cholesky_rule s) (s * s) A

-- pivot i of A with the factor F has a root to divide by
unfoldable pub cholesky_passes : ℕ → List Float → List Float → ℕ → Bool
cholesky_passes s A F i = positive (cholesky_pivot s i (λ k. F ! k) (at s A i i))

-- the end of Cholesky of A with the factor F: the first pivot that is not above zero or not finite, if there is one
unfoldable pub cholesky_end : ℕ → List Float → List Float → Result ⊤ ℕ
cholesky_end s A F = first_bad s (cholesky_passes s A F)

-- what `cholesky` answers and leaves of A: the end, and the entries before it
pub record CholeskyLeaves (s : ℕ) (A : List Float) (r : Result ⊤ ℕ) (X : List Float) : Type 0 where
  pub end : r ≡ cholesky_end s A (cholesky_of s A)
  pub out : X ≡ fill_by (cholesky_rule s) (reach s r) A
