-- exp as ordered operations: the table-driven algorithm of ARM's optimized routines (musl 1.2.3, `exp.c`, N = 128, without fma). Document 01, module 1.
-- exp x = 2^(k/N) exp r with k whole and r small. Assumes nothing.
use Rattle.std.specs.Prelude.{ℕ, ◌+◌, ◌*◌, ◌/◌, ◌%◌, ◌^◌, false, cond, ◌==◌, to_bits, Float}
use Rattle.std.specs.Float.{inf, binary64}
use Rattle.std.specs.Float.Ieee.{lt}
use Rattle.base.specs.Number.{◌⊕◌, ◌⊖◌, ◌⊗◌, bits, zero_f, one_f, abs_f}
use Rattle.tabulated.specs.ExpTable.{exp_row}

-- ---- constants
-- N / ln 2
abbrev pub inv_ln2_n : Float
inv_ln2_n = bits 0x4067_1547_652b_82fe

-- 1.5 · 2^52: a sum with it has no digits below 1
abbrev pub shift : Float
shift = bits 0x4338_0000_0000_0000

-- -ln 2 / N, first part: its product with k is exact
abbrev pub neg_ln2_hi_n : Float
neg_ln2_hi_n = bits 0xbf76_2e42_fefa_0000

-- -ln 2 / N, what the first part lacks
abbrev pub neg_ln2_lo_n : Float
neg_ln2_lo_n = bits 0xbd0c_f79a_bc9e_3b3a

-- the polynomial's coefficient of r², near to 1/2
abbrev pub c₂ : Float
c₂ = bits 0x3fdf_ffff_ffff_fdbd

-- of r³, near to 1/6
abbrev pub c₃ : Float
c₃ = bits 0x3fc5_5555_5555_543c

-- of r⁴, near to 1/24
abbrev pub c₄ : Float
c₄ = bits 0x3fa5_5555_cf17_2b91

-- of r⁵, near to 1/120
abbrev pub c₅ : Float
c₅ = bits 0x3f81_1111_67a4_d017

-- ---- the reduction, the table and the polynomial
-- r = x - k ln 2 / N
unfoldable pub reduced : Float → Float → Float
reduced x k = x ⊕ k ⊗ neg_ln2_hi_n ⊕ k ⊗ neg_ln2_lo_n

-- the tail of 2^(k/N), at k mod N; ki is the pattern of 1.5 · 2^52 + k
unfoldable pub row_tail : ℕ → Float
row_tail ki = bits (exp_row (ki % 128)).tail

-- the pattern of the scale, the double nearest to 2^(k/N): k · 2^45 added to the entry, modulo 2^64
unfoldable pub scale_bits : ℕ → ℕ
scale_bits ki = ((exp_row (ki % 128)).scale + ki % 0x8_0000 * 0x2000_0000_0000) % 2 ^ 64

-- t = (1 + tail) exp r - 1
unfoldable pub excess : Float → Float → Float
excess tail r =
    let r2 = r ⊗ r in
    tail ⊕ r ⊕ r2 ⊗ (c₂ ⊕ r ⊗ c₃) ⊕ r2 ⊗ r2 ⊗ (c₄ ⊕ r ⊗ c₅)

-- ---- the result
-- scale (1 + t)
unfoldable pub scaled : Float → Float → Float
scaled s t = s ⊕ s ⊗ t

-- the result for k of 0 and more, whose scale may be too large: taken with the scale's exponent 1009 lower, then times 2^1009
unfoldable pub large : ℕ → Float → Float
large sb t = bits 0x7f00_0000_0000_0000 ⊗ scaled (bits ((sb + 0xc0f0_0000_0000_0000) % 2 ^ 64)) t

-- y = s (1 + t) by a sum with 1, which rounds it where the subnormal result has its last digit; lo is what y and 1 + y lost
unfoldable pub refitted : Float → Float → Float → Float
refitted s t y =
    let lo = s ⊖ y ⊕ s ⊗ t in
    let hi = one_f ⊕ y in
    hi ⊕ (one_f ⊖ hi ⊕ y ⊕ lo) ⊖ one_f

-- only a y below 1 gives a subnormal result
unfoldable pub fitted : Float → Float → Float → Float
fitted s t y = cond (lt y one_f) (refitted s t y) y

-- the result for k below 0, which may be subnormal: taken with the scale's exponent 1022 higher, then times 2^-1022
unfoldable pub small : ℕ → Float → Float
small sb t =
    let s = bits ((sb + 0x3fe0_0000_0000_0000) % 2 ^ 64) in
    bits 0x0010_0000_0000_0000 ⊗ fitted s t (scaled s t)

-- the result where scale or result may leave the range: bit 31 of the shifted k's pattern is the sign of k
unfoldable pub edge : ℕ → ℕ → Float → Float
edge ki sb t = cond (ki / 0x8000_0000 % 2 == 0) (large sb t) (small sb t)

-- the result by |x|, with an edge from 512 on
unfoldable pub ended : Float → ℕ → ℕ → Float → Float
ended x ki sb t = cond (lt (abs_f x) (bits 0x4080_0000_0000_0000)) (scaled (bits sb) t) (edge ki sb t)

-- the result from the pattern of the shifted k and the reduced argument
abbrev pub from_row : Float → ℕ → Float → Float
from_row x ki r = ended x ki (scale_bits ki) (excess (row_tail ki) r)

-- exp x for |x| from 2^-54 to 1024; k is the whole number nearest to x N / ln 2
unfoldable pub exp_main : Float → Float
exp_main x =
    let shifted = inv_ln2_n ⊗ x ⊕ shift in
    let ki = to_bits binary64 shifted in
    from_row x ki (reduced x (shifted ⊖ shift))

-- z where it is above zero, and +0 elsewhere
unfoldable pub above_zero : Float → Float
above_zero z = cond (lt zero_f z) z zero_f

-- exp (x + low) for |x| from 2^-54 to 1024 and a low far below it: low is added to the reduced argument
unfoldable pub exp_two : Float → Float → Float
exp_two x low =
    let shifted = inv_ln2_n ⊗ x ⊕ shift in
    let ki = to_bits binary64 shifted in
    above_zero (from_row x ki (reduced x (shifted ⊖ shift) ⊕ low))

-- exp x for |x| of 1024 and more, and NaN of NaN
unfoldable pub exp_far : Float → Float
exp_far x = cond (lt x zero_f) zero_f (cond (lt zero_f x) (inf false) x)

-- exp x: 1 + x for |x| below 2^-54
unfoldable pub exp_of : Float → Float
exp_of x =
    cond (lt (abs_f x) (bits 0x3c90_0000_0000_0000)) (one_f ⊕ x)
    (cond (lt (abs_f x) (bits 0x4090_0000_0000_0000)) (above_zero (exp_main x))
    (exp_far x))
