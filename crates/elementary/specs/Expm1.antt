-- exp_m1: exp(x) - 1 as ordered operations, fdlibm's algorithm as musl's expm1.c has it. Document 01, module 1; docs/ELEMENTARY.md has method and bound.
-- With x = k ln 2 + r + c: exp(x) - 1 = 2 ^ k (1 + r - E) - 1, where E = r - expm1 (r + c). Assumes nothing.
use Rattle.std.specs.Prelude.{ℕ, cond, ◌==◌, is_nan, nat_lt, Float}
use Rattle.std.specs.Float.Ieee.{neg, lt, le}
use Rattle.base.specs.Number.{◌⊕◌, ◌⊖◌, ◌⊗◌, ◌⊘◌, bits, zero_f, one_f, half_f, two_f, number_of, abs_f}
use Rattle.elementary.specs.Parts.{minus_one_f, ln2_hi, ln2_lo, whole_of, power_of, inverse_power_of}

-- (r² / 2) (p - t) / (6 - r t), with s = r² / 2, p = 1 + Q1 s + .. + Q5 s ^ 5 and t = 3 - p r / 2
unfoldable pub quotient_of : Float → Float
quotient_of r =
    let h = half_f ⊗ r in
    let s = r ⊗ h in
    let p = one_f ⊕ s ⊗ (bits 0xbfa1_1111_1111_10f4 ⊕ s ⊗ (bits 0x3f5a_01a0_19fe_5585 ⊕ s ⊗ (bits 0xbf14_ce19_9eaa_dbb7 ⊕ s ⊗ (bits 0x3ed0_cfca_86e6_5239 ⊕ s ⊗ bits 0xbe8a_fdb7_6e09_c32d)))) in
    let t = bits 0x4008_0000_0000_0000 ⊖ p ⊗ h in
    s ⊗ ((p ⊖ t) ⊘ (bits 0x4018_0000_0000_0000 ⊖ r ⊗ t))

-- E, with the correction c of the reduced argument
unfoldable pub rest_of : Float → Float → Float
rest_of r c = r ⊗ (quotient_of r ⊖ c) ⊖ c ⊖ r ⊗ (half_f ⊗ r)

-- k = m from 2 on: at 1024 the power is taken in two factors; past 56 the last 1 is taken off apart; below 20 it goes in with 2 ^ -m before the factor
unfoldable pub scaled_of : Float → Float → ℕ → Float
scaled_of r e m =
    cond (m == 1024) ((r ⊖ e ⊕ one_f) ⊗ two_f ⊗ bits 0x7fe0_0000_0000_0000 ⊖ one_f)
    (cond (nat_lt 56 m) ((r ⊖ e ⊕ one_f) ⊗ power_of m ⊖ one_f)
    (cond (nat_lt m 20) ((r ⊖ e ⊕ (one_f ⊖ inverse_power_of m)) ⊗ power_of m)
    ((r ⊖ (e ⊕ inverse_power_of m) ⊕ one_f) ⊗ power_of m)))

-- k = m, where r = hi - lo and E are known
unfoldable pub up_of : Float → Float → ℕ → Float
up_of r e m =
    cond (m == 1)
    (cond (lt r (neg (bits 0x3fd0_0000_0000_0000))) (neg two_f ⊗ (e ⊖ (r ⊕ half_f))) (one_f ⊕ two_f ⊗ (r ⊖ e)))
    (scaled_of r e m)

-- k = -m, where r = hi - lo and E are known
unfoldable pub down_of : Float → Float → ℕ → Float
down_of r e m = cond (m == 1) (half_f ⊗ (r ⊖ e) ⊖ half_f) ((r ⊖ e ⊕ one_f) ⊗ inverse_power_of m ⊖ one_f)

-- k = m, from hi - lo, whose rounding is made good in E
unfoldable pub grown_of : Float → Float → ℕ → Float
grown_of hi lo m = let r = hi ⊖ lo in up_of r (rest_of r (hi ⊖ r ⊖ lo)) m

-- k = -m, from hi - lo in the same way
unfoldable pub shrunk_of : Float → Float → ℕ → Float
shrunk_of hi lo m = let r = hi ⊖ lo in down_of r (rest_of r (hi ⊖ r ⊖ lo)) m

-- x above zero, k = m being the whole part of x / ln 2 + 1/2
unfoldable pub grown_by : Float → ℕ → Float
grown_by x m = grown_of (x ⊖ number_of m ⊗ ln2_hi) (number_of m ⊗ ln2_lo) m

-- x below zero, k = -m being the whole part of x / ln 2 - 1/2
unfoldable pub shrunk_by : Float → ℕ → Float
shrunk_by x m = shrunk_of (x ⊖ neg (number_of m) ⊗ ln2_hi) (neg (number_of m) ⊗ ln2_lo) m

-- x above ln 2 / 2: k = 1 up to 1.5 ln 2
unfoldable pub rising_of : Float → Float
rising_of x =
    cond (lt x (bits 0x3ff0_a2b2_0000_0000)) (grown_of (x ⊖ ln2_hi) ln2_lo 1)
    (grown_by x (whole_of (bits 0x3ff7_1547_652b_82fe ⊗ x ⊕ half_f)))

-- x below -ln 2 / 2: k = -1 down to -1.5 ln 2
unfoldable pub falling_of : Float → Float
falling_of x =
    cond (lt (neg (bits 0x3ff0_a2b2_0000_0000)) x) (shrunk_of (x ⊕ ln2_hi) (neg ln2_lo) 1)
    (shrunk_by x (whole_of (neg (bits 0x3ff7_1547_652b_82fe ⊗ x ⊖ half_f))))

-- the published algorithm: overflow; -1 from about -56 ln 2 down; x itself below 2 ^ -54; k = 0 up to ln 2 / 2
unfoldable pub expm1_main : Float → Float
expm1_main x =
    cond (lt (bits 0x4086_2e42_fefa_39ef) x) (x ⊗ bits 0x7fe0_0000_0000_0000)
    (cond (le x (neg (bits 0x4043_687a_0000_0000))) minus_one_f
    (cond (lt (abs_f x) (bits 0x3c90_0000_0000_0000)) x
    (cond (lt (abs_f x) (bits 0x3fd6_2e43_0000_0000)) (x ⊖ (x ⊗ quotient_of x ⊖ x ⊗ (half_f ⊗ x)))
    (cond (lt x zero_f) (falling_of x) (rising_of x)))))

-- z where it is above -1, and -1 elsewhere
unfoldable pub above_minus_one : Float → Float
above_minus_one z = cond (lt minus_one_f z) z minus_one_f

-- exp(x) - 1: a NaN stays, and the guard makes plain that no other argument gives one
unfoldable pub expm1_of : Float → Float
expm1_of x = cond (is_nan x) x (above_minus_one (expm1_main x))
