-- Lists and matrices by their entries, and lists that a loop has filled. Assumes nothing.
use Rattle.std.specs.Prelude.{List, [], ◌∷◌, ℕ, zero, suc, ◌+◌, ◌*◌, ◌/◌, ◌%◌, set, Float}
use Rattle.base.specs.Number.{zero_f}
use Rattle.base.specs.Sum.{◌!◌}

-- the list f 0, f 1, .. f (n - 1)
unfoldable pub build : (ℕ → Float) → ℕ → List Float
build f zero = []
build f (suc n) = f 0 ∷ build (λ i. f (suc i)) n

-- +0.0 at every place
abbrev pub zero_at : ℕ → Float
zero_at i = zero_f

-- entry i of a list, as a rule
abbrev pub entry_of : List Float → ℕ → Float
entry_of xs i = xs ! i

-- the matrix of r rows and c columns with the entries f i j, row by row
unfoldable pub matrix : ℕ → ℕ → (ℕ → ℕ → Float) → List Float
matrix r c f = build (λ t. f (t / c) (t % c)) (r * c)

-- entry (i, j) of a matrix of c columns
abbrev pub at : ℕ → List Float → ℕ → ℕ → Float
at c M i j = M ! (i * c + j)

-- b with its first n entries replaced by f 0 .. f (n - 1)
unfoldable pub fill_to : ℕ → (ℕ → Float) → List Float → List Float
fill_to zero f b = b
fill_to (suc n) f b = set (fill_to n f b) n (f n)

-- b with the n entries from off on replaced by f 0 .. f (n - 1)
unfoldable pub fill_at : ℕ → ℕ → (ℕ → Float) → List Float → List Float
fill_at off zero f b = b
fill_at off (suc n) f b = set (fill_at off n f b) (off + n) (f n)

-- b with r rows of c entries each, row i from i·c on, replaced by f i 0 .. f i (c - 1)
unfoldable pub grid_to : ℕ → ℕ → (ℕ → ℕ → Float) → List Float → List Float
grid_to zero c f b = b
grid_to (suc r) c f b = fill_at (r * c) c (f r) (grid_to r c f b)
