-- Where each number of a job stands. Document 01, "The job and the program", its first paragraph; document 02, P10, for version 2. Every definition is of the bytes alone, and total:
-- past the end all bits are 0. Which jobs are refused is said in `Faults`. Assumes nothing.
use Rattle.std.specs.Prelude.{Bool, cond, ◌&&◌, List, ℕ, zero, suc, ◌+◌, ◌*◌, eqb, Float, replicate}
use Rattle.bits.specs.Bits.{bits_of, double_of}
use Rattle.model.specs.Shape.{within, effects_of, theta_length, good_shape}
use Rattle.model.specs.declared.sizes.Shape.{Shape}
use Rattle.job.specs.Lists.{counts, laid}

-- ---- the header: version, family, link, weights, offset, n_agq, n, p, blocks and L, one behind the other, 48 bits; in version 2 a byte more behind them

-- the version, 1 or 2 in every job that is not refused
abbrev pub version : List ℕ → ℕ
version s = bits_of s 0 4

-- the family's code
abbrev pub family_field : List ℕ → ℕ
family_field s = bits_of s 4 2

-- the link's code
abbrev pub link_field : List ℕ → ℕ
link_field s = bits_of s 6 3

-- 1 where the weights are there
abbrev pub weighted : List ℕ → ℕ
weighted s = bits_of s 9 1

-- 1 where the offset is there
abbrev pub shifted : List ℕ → ℕ
shifted s = bits_of s 10 1

-- n_agq
abbrev pub wish : List ℕ → ℕ
wish s = bits_of s 11 5

-- n
abbrev pub obs : List ℕ → ℕ
obs s = bits_of s 16 13

-- p
abbrev pub cols : List ℕ → ℕ
cols s = bits_of s 29 5

-- how many blocks there are
abbrev pub blocks : List ℕ → ℕ
blocks s = bits_of s 34 4

-- L, 1023 where it is not given
abbrev pub limit_field : List ℕ → ℕ
limit_field s = bits_of s 38 10

-- the job is of version 2
abbrev pub is_second : List ℕ → Bool
is_second s = eqb (version s) 2

-- the start's code, "one more header bit after L": in version 2 alone, in version 1 the blocks stand there
abbrev pub start_field : List ℕ → ℕ
start_field s = bits_of s 48 1

-- ---- the blocks: "m 7, k 4, five zero bits", two bytes each

-- the byte at which they begin, after the header
unfoldable pub blocks_at : List ℕ → ℕ
blocks_at s = cond (is_second s) 7 6

-- the byte at which block i begins
abbrev pub block_at : List ℕ → ℕ → ℕ
block_at s i = blocks_at s + 2 * i

-- m of block i
unfoldable pub groups : List ℕ → ℕ → ℕ
groups s i = bits_of s (8 * block_at s i) 7

-- k of block i
unfoldable pub effects_in : List ℕ → ℕ → ℕ
effects_in s i = bits_of s (8 * block_at s i + 7) 4

-- the blocks as the fit is given them: m and k of each, 0 past the last
abbrev pub shape_of : List ℕ → Shape
shape_of s =
    record {
      count = blocks s;
      m = laid (counts (groups s) (blocks s)) (replicate 8 0);
      k = laid (counts (effects_in s) (blocks s)) (replicate 8 0);
    }

-- q, the rows of Z'
abbrev pub rows_in : List ℕ → ℕ
rows_in s = effects_of (shape_of s)

-- how many numbers theta has
abbrev pub thetas : List ℕ → ℕ
thetas s = theta_length (shape_of s)

-- the sizes that a job can say are in range; the rest of number 1 is tested with the table
unfoldable pub sizes_fit : List ℕ → Bool
sizes_fit s = within 1 512 (obs s) && (within 1 16 (cols s) && good_shape (shape_of s))

-- ---- the doubles behind the blocks, five lists: at which byte each begins

-- theta's: behind the last block
abbrev pub theta_at : List ℕ → ℕ
theta_at s = block_at s (blocks s)

-- y's: behind theta
abbrev pub y_at : List ℕ → ℕ
y_at s = theta_at s + 8 * thetas s

-- the weights': behind y
abbrev pub weights_at : List ℕ → ℕ
weights_at s = y_at s + 8 * obs s

-- the offset's: behind the weights, if they are there
abbrev pub offset_at : List ℕ → ℕ
offset_at s = weights_at s + 8 * (weighted s * obs s)

-- X's: behind the offset, if it is there
abbrev pub x_at : List ℕ → ℕ
x_at s = offset_at s + 8 * (shifted s * obs s)

-- the byte behind X, where the rows of Z' begin
abbrev pub z_at : List ℕ → ℕ
z_at s = x_at s + 8 * (obs s * cols s)

-- entry i of the list of doubles that begins at byte a
abbrev pub number : List ℕ → ℕ → ℕ → Float
number s a i = double_of s (a + 8 * i)

-- ---- the rows of Z': each with its count, each entry with its column and its double

-- the 13 bits at byte p: a row's count, an entry's column
abbrev pub short : List ℕ → ℕ → ℕ
short s p = bits_of s (8 * p) 13

-- the byte after a row that begins at p
abbrev pub after_row : List ℕ → ℕ → ℕ
after_row s p = p + 2 + 10 * short s p

-- where row r begins
unfoldable pub row_at : List ℕ → ℕ → ℕ
row_at s zero = z_at s
row_at s (suc r) = after_row s (row_at s r)

-- how many entries stand before row r
unfoldable pub start_of : List ℕ → ℕ → ℕ
start_of s zero = 0
start_of s (suc r) = start_of s r + short s (row_at s r)

-- the place of entry j of the row that begins at p
abbrev pub entry_at : ℕ → ℕ → ℕ
entry_at p j = p + 2 + 10 * j

-- the column of entry j of the row that begins at p
abbrev pub column_read : List ℕ → ℕ → ℕ → ℕ
column_read s p j = short s (entry_at p j)

-- its value, behind the column's two bytes
abbrev pub value_read : List ℕ → ℕ → ℕ → Float
value_read s p j = double_of s (entry_at p j + 2)
