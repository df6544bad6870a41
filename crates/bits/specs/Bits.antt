-- The bits of a list of bytes, the numbers that they make, and the double of eight bytes. Document 01, "The job and the program", its first sentences. Assumes nothing.
use Rattle.std.specs.Prelude.{List, ℕ, zero, suc, ◌+◌, ◌*◌, ◌-◌, ◌/◌, ◌%◌, ◌^◌, ◌≤◌, ◌<◌, Float}
use Rattle.base.specs.Number.{bits}
use Rattle.base.specs.Sum.{◌!!◌}

-- the most significant bit of a byte comes first: bit p is that of byte p / 8 which counts 2 ^ (7 - p % 8); 0 past the end
abbrev pub bit_of : List ℕ → ℕ → ℕ
bit_of s p = ((s !! (p / 8)) / 2 ^ (7 - p % 8)) % 2

-- the number whose binary digits are the n bits from at on, the first counting most
unfoldable pub bits_of : List ℕ → ℕ → ℕ → ℕ
bits_of s at zero = 0
bits_of s at (suc n) = bits_of s at n * 2 + bit_of s (at + n)

-- "doubles, high byte first": the double whose pattern stands in the eight bytes from byte p on
unfoldable pub double_of : List ℕ → ℕ → Float
double_of s p = bits (bits_of s (8 * p) 64)

-- n bits from at on, at most 16 of them, at a place within 512 megabytes
abbrev pub Near : ℕ → ℕ → Type 0
Near at n = (at < 2 ^ 32) × (n ≤ 16)
