-- Λ, from theta and the shape: its places, and the number of theta that stands at each. Document 01, "The inner fit": Λ packs each block's lower triangle column by column.
-- A block's triangle is the same for each of its groups; an entry is a place, whatever theta holds there. Assumes nothing.
use Rattle.std.specs.Prelude.{List, Bool, ◌&&◌, cond, ℕ, ◌+◌, ◌-◌, ◌%◌, leb, ltb, Float}
use Rattle.base.specs.Number.{zero_f}
use Rattle.base.specs.Sum.{◌!◌, ◌!!◌}
use Rattle.base.specs.Sparse.{find_to}
use Rattle.model.specs.Shape.{total_to, first_effect, first_theta}
use Rattle.model.specs.declared.sizes.Shape.{Shape}
use Rattle.lambda.specs.declared.column.Column.{Column}

-- the effects of block i begin at effect j or before it
abbrev pub begun_by : Shape → ℕ → ℕ → Bool
begun_by s j i = leb (first_effect s i) j

-- the block of effect j: the last that has begun
unfoldable pub block_of : Shape → ℕ → ℕ
block_of s j = find_to s.count (begun_by s j)

-- how many effects a group of block i has
abbrev pub group_size : Shape → ℕ → ℕ
group_size s i = s.k !! i

-- the number of effect j within its group, in block i: groups follow each other from the block's begin
abbrev pub effect_in : Shape → ℕ → ℕ → ℕ
effect_in s i j = (j - first_effect s i) % group_size s i

-- column c of a lower triangle of size k has k - c numbers
abbrev pub column_length : ℕ → ℕ → ℕ
column_length k c = k - c

-- where column c of a packed lower triangle begins: behind the columns before it
unfoldable pub column_start : ℕ → ℕ → ℕ
column_start k c = total_to c (column_length k)

-- column j of Λ, effect j being in block i: where its numbers begin in theta, and how many they are
unfoldable pub column_in : Shape → ℕ → ℕ → Column
column_in s i j =
    record { first = first_theta s i + column_start (group_size s i) (effect_in s i j); count = column_length (group_size s i) (effect_in s i j) }

-- column j of Λ: from its diagonal to the end of its group
unfoldable pub column_of : Shape → ℕ → Column
column_of s j = column_in s (block_of s j) j

-- (i, j) is a place of Λ: row i is among the rows of column j, which go down from the diagonal
unfoldable pub is_entry : Shape → ℕ → ℕ → Bool
is_entry s i j = leb j i && ltb i (j + (column_of s j).count)

-- what stands there
unfoldable pub lambda_at : Shape → List Float → ℕ → ℕ → Float
lambda_at s theta i j = theta ! ((column_of s j).first + (i - j))

-- entry (i, j) of Λ as a whole matrix: +0.0 where it has no place
unfoldable pub lambda_full : Shape → List Float → ℕ → ℕ → Float
lambda_full s theta i j = cond (is_entry s i j) (lambda_at s theta i j) zero_f
