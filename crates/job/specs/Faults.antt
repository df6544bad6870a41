-- The refusals of a job with their bytes. Document 01, "The job and the program", and document 02, P10: too long a job first, then what is met first in the file, the sizes between the blocks and the doubles.
-- Each part of the file demands something; the first demand that fails is the answer. Assumes nothing.
use Prim.{tt}
use Rattle.std.specs.Prelude.{Bool, true, false, not, cond, ◌&&◌, ◌||◌, List, ℕ, zero, suc, ◌+◌, ◌*◌, ◌-◌, ◌/◌, leb, ltb, eqb, length, Result, Ok, Err, ⊤}
use Rattle.bits.specs.Bits.{bits_of}
use Rattle.job.specs.declared.faults.Fault.{Fault}
use Rattle.job.specs.Format.{version, link_field, limit_field, is_second, blocks, blocks_at, rows_in, sizes_fit, z_at, short, after_row}

-- refusal r at byte b
abbrev pub fault : ℕ → ℕ → Fault
fault r b = record { number = r; byte = b }

-- what is found of a part: no fault, or its fault
abbrev pub Checked : Type 0
Checked = Result ⊤ Fault

-- refusal r at byte b, unless the test holds
unfoldable pub demand : Bool → ℕ → ℕ → Checked
demand true r b = Ok tt
demand false r b = Err (fault r b)

-- the first of two faults
unfoldable pub first : Checked → Checked → Checked
first (Ok t) g = g
first (Err e) g = Err e

infixr 30 ◌▹◌
abbrev pub ◌▹◌ : Checked → Checked → Checked
f ▹ g = first f g

-- there is no fault
unfoldable pub is_sound : Checked → Bool
is_sound (Ok t) = true
is_sound (Err e) = false

-- 20 at the length of the input, unless the job goes on to bit e at least
unfoldable pub reaches : List ℕ → ℕ → Checked
reaches s e = demand (leb e (length s * 8)) 20 (length s)

-- 22 at their byte, unless the w bits from p on, which lie in one byte, are zero bits
unfoldable pub spare : List ℕ → ℕ → ℕ → Checked
spare s p w = demand (eqb (bits_of s p w) 0) 22 (p / 8)

-- the header's 48 bits that both versions have: 21 and 24 for version and link at byte 0, 24 for a limit from 1001 to 1022 at byte 4
unfoldable pub common_fault : List ℕ → Checked
common_fault s =
    reaches s 4
    ▹ demand (eqb (version s) 1 || is_second s) 21 0
    ▹ reaches s 9
    ▹ demand (ltb (link_field s) 7) 24 0
    ▹ reaches s 48
    ▹ demand (not (ltb 1000 (limit_field s) && ltb (limit_field s) 1023)) 24 4

-- the byte behind them in version 2: seven zero bits after the start
unfoldable pub second_fault : List ℕ → Checked
second_fault s = cond (is_second s) (reaches s 56 ▹ spare s 49 7) (Ok tt)

-- the header
unfoldable pub head_fault : List ℕ → Checked
head_fault s = common_fault s ▹ second_fault s

-- two bytes at p, the last w bits of which are zero bits: a block, a row's count, an entry's column
unfoldable pub pair_fault : List ℕ → ℕ → ℕ → Checked
pair_fault s p w = reaches s (8 * p + 16) ▹ spare s (8 * p + (16 - w)) w

-- n blocks from byte p on
unfoldable pub blocks_fault : List ℕ → ℕ → ℕ → Checked
blocks_fault s p zero = Ok tt
blocks_fault s p (suc n) = pair_fault s p 5 ▹ blocks_fault s (p + 2) n

-- an entry of Z' at byte p: a column and a double
unfoldable pub entry_fault : List ℕ → ℕ → Checked
entry_fault s p = pair_fault s p 3 ▹ reaches s (8 * p + 80)

-- n entries from byte p on
unfoldable pub entries_fault : List ℕ → ℕ → ℕ → Checked
entries_fault s p zero = Ok tt
entries_fault s p (suc n) = entry_fault s p ▹ entries_fault s (p + 10) n

-- the row of Z' at byte p
unfoldable pub row_fault : List ℕ → ℕ → Checked
row_fault s p = pair_fault s p 3 ▹ entries_fault s (p + 2) (short s p)

-- n rows from byte p on, and then the end: 23 at the first byte behind it
unfoldable pub rows_fault : List ℕ → ℕ → ℕ → Checked
rows_fault s p zero = demand (leb (length s) p) 23 p
rows_fault s p (suc n) = row_fault s p ▹ rows_fault s (after_row s p) n

-- past the blocks: 1, then the doubles, which can only be cut short, then Z'
unfoldable pub numbers_fault : List ℕ → Checked
numbers_fault s = demand (sizes_fit s) 1 0 ▹ reaches s (8 * z_at s) ▹ rows_fault s (z_at s) (rows_in s)

-- past the header
unfoldable pub body_fault : List ℕ → Checked
body_fault s = blocks_fault s (blocks_at s) (blocks s) ▹ numbers_fault s

-- the whole job: first 25 at byte 65536 for more bytes than that
unfoldable pub fault_of : List ℕ → Checked
fault_of s = demand (leb (length s) 65536) 25 65536 ▹ head_fault s ▹ body_fault s
