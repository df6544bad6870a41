-- Laws of bits: n of them make a number below 2 ^ n. Assumes nothing.
use mathlib.Core.List.{List}
use Prim.Native.Nat.{ℕ, zero, suc, ◌+◌, ◌<◌, ◌^◌}
use native.Mathlib.Nat.{mod-lt, two-pow-succ}
use native.Mathlib.Omega.{arith}
use lib.Dec.{lit<}
use Rattle.bits.specs.Bits.{bit_of, bits_of, Near}

bit_below : (s : List ℕ) (p : ℕ) → bit_of s p < 2
bit_below s p = mod-lt _ (lit< tt)

pub bits_below : (s : List ℕ) (at n : ℕ) → bits_of s at n < 2 ^ n
unfolding bits_of
bits_below s at zero = lit< tt
bits_below s at (suc n) = omega (arith, two-pow-succ n, bits_below s at n, bit_below s (at + n))

-- a place behind a field is a machine number
pub sum_fits : (at n : ℕ) → Near at n → at + n < 2 ^ 64
sum_fits at n (h, k) = omega arith
