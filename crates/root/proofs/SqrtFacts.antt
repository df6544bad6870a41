-- The square root of the special arguments and of some numbers, by computation. Of every number below zero: `of_below` of proofs/Cases. Assumes nothing.
use Rattle.std.proofs.Common.{◌≡◌, true, false, refl}
use lib.Ieee.{nan, inf, of_bits, size}
use Rattle.base.specs.Number.{bits}
use Rattle.root.specs.Sqrt.{with_digit, nearest_from, place_of, root_of, units_of, sqrt_of}

-- -0.0 gives -0.0, and +0.0 gives +0.0
pub at_minus_zero : sqrt_of (bits 0x8000_0000_0000_0000) ≡ bits 0x8000_0000_0000_0000
unfolding sqrt_of of_bits
at_minus_zero = refl

pub at_zero : sqrt_of (bits 0) ≡ bits 0
unfolding sqrt_of of_bits
at_zero = refl

pub at_nan : sqrt_of nan ≡ nan
unfolding sqrt_of
at_nan = refl

pub at_infinity : sqrt_of (inf false) ≡ inf false
unfolding sqrt_of
at_infinity = refl

pub at_minus_infinity : sqrt_of (inf true) ≡ nan
unfolding sqrt_of
at_minus_infinity = refl

pub at_minus_one : sqrt_of (bits 0xbff0_0000_0000_0000) ≡ nan
unfolding sqrt_of of_bits
at_minus_one = refl

-- 1.5 of 2.25, which is exact
pub of_nine_quarters : sqrt_of (bits 0x4002_0000_0000_0000) ≡ bits 0x3ff8_0000_0000_0000
unfolding with_digit nearest_from place_of root_of units_of sqrt_of of_bits size
of_nine_quarters = refl

-- 1.4142135623730951 of 2.0
pub of_two : sqrt_of (bits 0x4000_0000_0000_0000) ≡ bits 0x3ff6_a09e_667f_3bcd
unfolding with_digit nearest_from place_of root_of units_of sqrt_of of_bits size
of_two = refl

-- 2 ^ -537 of 2 ^ -1074, the smallest double
pub of_smallest : sqrt_of (bits 1) ≡ bits 0x1e60_0000_0000_0000
unfolding with_digit nearest_from place_of root_of units_of sqrt_of of_bits size
of_smallest = refl

-- 1.3407807929942596e154 of the largest double
pub of_largest : sqrt_of (bits 0x7fef_ffff_ffff_ffff) ≡ bits 0x5fef_ffff_ffff_ffff
unfolding with_digit nearest_from place_of root_of units_of sqrt_of of_bits size
of_largest = refl
