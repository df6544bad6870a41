-- What the definitions of exp_m1 and ln_1p share: constants by their bits, the whole part of a number, powers of two. Assumes nothing.
use Rattle.std.specs.Prelude.{ℕ, ◌+◌, ◌-◌, ◌*◌, ◌%◌, cond, Float}
use Rattle.std.specs.Float.Ieee.{neg, lt, to_unsigned}
use Rattle.base.specs.Number.{bits, one_f}

-- -1.0
abbrev pub minus_one_f : Float
minus_one_f = neg one_f

-- ln 2 in two parts: its upper 32 bits
abbrev pub ln2_hi : Float
ln2_hi = bits 0x3fe6_2e42_fee0_0000

-- and the rest
abbrev pub ln2_lo : Float
ln2_lo = bits 0x3dea_39ef_3579_3c76

-- the whole part of z, cut toward zero, and 0 outside -1 to 2 ^ 64
unfoldable pub whole_of : Float → ℕ
whole_of z = cond (lt minus_one_f z) (cond (lt z (bits 0x43f0_0000_0000_0000)) (to_unsigned 64 z) 0) 0

-- 2 ^ m, by the exponent's field; m is at most 1023 where it is used
unfoldable pub power_of : ℕ → Float
power_of m = bits (0x3ff0_0000_0000_0000 + m % 1024 * 0x10_0000_0000_0000)

-- 2 ^ -m, in the same way
unfoldable pub inverse_power_of : ℕ → Float
inverse_power_of m = bits (0x3ff0_0000_0000_0000 - m % 1024 * 0x10_0000_0000_0000)
