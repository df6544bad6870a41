-- The format in the writing direction: the bytes of a job, in version 1 or 2. Document 01, "The job and the program", and document 02, P10; requests P4, P11 and P14 stand on it. Assumes nothing.
use Rattle.std.specs.Prelude.{Option, Some, None}
use Rattle.std.specs.Prelude.{cond, List, [], ◌∷◌, ◌++◌, ℕ, zero, suc, ◌+◌, ◌*◌, ◌-◌, ◌/◌, ◌%◌, ◌^◌, Float, length}
use Rattle.std.specs.Float.Ieee.{to_bits}
use Rattle.std.specs.Float.{binary64}
use Rattle.base.specs.Sum.{◌!◌, ◌!!◌}
use Rattle.base.specs.Sparse.{Sparse}
use Rattle.model.specs.Names.{family_code, link_code, start_code}
use Rattle.model.specs.declared.names.Start.{Start}
use Rattle.model.specs.declared.sizes.Shape.{Shape}
use Rattle.job.specs.Lists.{join_to}
use Rattle.job.specs.Format.{is_second}
use Rattle.job.specs.Job.{Job}

-- a number in a field of so many bits
pub record Field : Type 0 where
  pub width : ℕ
  pub num : ℕ

-- the field of w bits that holds v
abbrev pub fld : ℕ → ℕ → Field
fld w v = record { width = w; num = v }

-- the number that fields make, the first counting most; v stands before them
unfoldable pub packed : ℕ → List Field → ℕ
packed v [] = v
packed v (f ∷ fs) = packed (v * 2 ^ f.width + f.num) fs

-- the last n bytes of v, high byte first
unfoldable pub bytes_of : ℕ → ℕ → List ℕ
bytes_of zero v = []
bytes_of (suc n) v = bytes_of n (v / 256) ++ (v % 256 ∷ [])

-- 1 where a list is there
unfoldable pub present : List Float → ℕ
present [] = 0
present (x ∷ xs) = 1

-- "1023 = not given"
unfoldable pub limit_code : Option ℕ → ℕ
limit_code (Some l) = l
limit_code None = 1023

-- the two versions of the format
pub data Version : Type 0 where
  version1 : Version
  version2 : Version

-- the version of a job that is not refused
unfoldable pub version_of : List ℕ → Version
version_of s = cond (is_second s) version2 version1

-- the header's first number
abbrev pub version_code : Version → ℕ
version_code version1 = 1
version_code version2 = 2

-- how many bytes the header has
abbrev pub head_length : Version → ℕ
head_length version1 = 6
head_length version2 = 7

-- the header's 48 bits that both versions have
unfoldable pub common_bytes : Version → Job → List ℕ
common_bytes v j =
    bytes_of 6
    (packed 0
    (fld 4 (version_code v) ∷ fld 2 (family_code j.settings.family) ∷ fld 3 (link_code j.settings.link) ∷ fld 1 (present j.weights)
    ∷ fld 1 (present j.offset) ∷ fld 5 j.settings.n_agq ∷ fld 13 j.settings.n ∷ fld 5 j.settings.p ∷ fld 4 j.shape.count
    ∷ fld 10 (limit_code j.settings.limit) ∷ []))

-- the byte behind them in version 2: the start and seven zero bits
unfoldable pub start_bytes : Version → Start → List ℕ
start_bytes version1 t = []
start_bytes version2 t = bytes_of 1 (packed 0 (fld 1 (start_code t) ∷ fld 7 0 ∷ []))

-- the header; version 1 has no place for the start
unfoldable pub head_bytes : Version → Job → List ℕ
head_bytes v j = common_bytes v j ++ start_bytes v j.settings.start

-- m, k and five zero bits
unfoldable pub block_bytes : Shape → ℕ → List ℕ
block_bytes b i = bytes_of 2 (packed 0 (fld 7 (b.m !! i) ∷ fld 4 (b.k !! i) ∷ fld 5 0 ∷ []))

-- a double, high byte first
unfoldable pub number_bytes : Float → List ℕ
number_bytes x = bytes_of 8 (to_bits binary64 x)

-- a list of doubles
unfoldable pub numbers_bytes : List Float → List ℕ
numbers_bytes xs = join_to (length xs) (λ i. number_bytes (xs ! i))

-- 13 bits and three zero bits
unfoldable pub short_bytes : ℕ → List ℕ
short_bytes c = bytes_of 2 (packed 0 (fld 13 c ∷ fld 3 0 ∷ []))

-- entry e of Z': its column and its value
unfoldable pub entry_bytes : Sparse → ℕ → List ℕ
entry_bytes z e = short_bytes (z.columns !! e) ++ number_bytes (z.values ! e)

-- how many entries row r has
abbrev pub row_count : Sparse → ℕ → ℕ
row_count z r = (z.starts !! (r + 1)) - (z.starts !! r)

-- row r: its count and its entries
unfoldable pub row_bytes : Sparse → ℕ → List ℕ
row_bytes z r = short_bytes (row_count z r) ++ join_to (row_count z r) (λ j. entry_bytes z ((z.starts !! r) + j))

-- what stands behind the header, in either version
abbrev pub body_bytes : Job → List ℕ
body_bytes j =
    join_to j.shape.count (block_bytes j.shape) ++ (numbers_bytes j.theta ++ (numbers_bytes j.y ++ (numbers_bytes j.weights
    ++ (numbers_bytes j.offset ++ (numbers_bytes j.x ++ join_to j.settings.rows (row_bytes j.z))))))

-- the whole job
unfoldable pub job_bytes : Version → Job → List ℕ
job_bytes v j = head_bytes v j ++ body_bytes j
