-- ln as ordered operations: the table-driven algorithm of ARM's optimized routines (musl 1.2.3, `log.c`, N = 128, without fma). Document 01, module 1.
-- ln x = k ln 2 + ln c + ln (z/c) with x = 2^k z. Assumes nothing.
use Rattle.std.specs.Prelude.{ℕ, ◌+◌, ◌/◌, ◌%◌, Bool, true, cond, ◌&&◌, pos, to_bits, Float}
use Rattle.std.specs.Float.{nan, inf, binary64}
use Rattle.std.specs.Float.Ieee.{of_int, lt, le, eq}
use Rattle.base.specs.Number.{◌⊕◌, ◌⊖◌, ◌⊗◌, bits, zero_f, one_f, huge_f}
use Rattle.tabulated.specs.LogTable.{log_row}
use Rattle.elementary.specs.LogPoly.{near_of, log_ln2_hi, ln_sum}

-- x is from 1 - 2^-4 to below 1.064697265625, where |ln x| is below 2^-4 or little more
unfoldable pub near_one : Float → Bool
near_one x = le (bits 0x3fee_0000_0000_0000) x && lt x (bits 0x3ff1_0900_0000_0000)

-- ln x for such an x
unfoldable pub ln_near : Float → Float
ln_near x = cond (eq x one_f) zero_f (near_of (x ⊖ one_f))

-- k ln 2 + ln z by row i of the table: r is (z - c)/c
unfoldable pub ln_row : ℕ → Float → Float → Float
ln_row i z k =
    let row = log_row i in
    ln_sum k ((z ⊖ row.centre ⊖ row.rest) ⊗ row.inverse) (k ⊗ log_ln2_hi ⊕ row.log)

-- ln x for a normal x above zero. t is x's pattern less that of 0.6875, plus 1024 · 2^52: from 2^52 on its digits are k + 1024, the seven below say
-- in which of the N parts from 0.6875 to 1.375 z lies. The bias is 1024, and 52 more for an x that was scaled up by 2^52
unfoldable pub ln_main : Float → Float → Float
ln_main x bias =
    let t = to_bits binary64 x % 0x8000_0000_0000_0000 + 0x001a_0000_0000_0000 in
    ln_row (t / 0x2000_0000_0000 % 128) (bits (0x3fe6_0000_0000_0000 + t % 0x0010_0000_0000_0000))
    (of_int binary64 (pos (t / 0x0010_0000_0000_0000)) ⊖ bias)

-- ln x elsewhere: of a zero, below zero, of a subnormal number, of the others, and last of +infinity and NaN
unfoldable pub ln_far : Float → Float
ln_far x =
    cond (eq x zero_f) (inf true)
    (cond (lt x zero_f) nan
    (cond (lt x (bits 0x0010_0000_0000_0000)) (ln_main (x ⊗ bits 0x4330_0000_0000_0000) (bits 0x4090_d000_0000_0000))
    (cond (le x huge_f) (ln_main x (bits 0x4090_0000_0000_0000))
    x)))

-- ln x
unfoldable pub ln_of : Float → Float
ln_of x = cond (near_one x) (ln_near x) (ln_far x)
