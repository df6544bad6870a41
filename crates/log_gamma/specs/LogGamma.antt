-- ln_gamma, the logarithm of gamma, as ordered operations: fdlibm's algorithm, and from 8 on with the logarithm of x in two parts. Document 02, P2; docs/ELEMENTARY.md has method and bound. Assumes nothing.
use Rattle.std.specs.Prelude.{ℕ, zero, suc, ◌+◌, ◌/◌, ◌%◌, false, cond, is_nan, to_bits, Float}
use Rattle.std.specs.Float.{nan, inf, binary64}
use Rattle.std.specs.Float.Ieee.{neg, lt, le, eq}
use Rattle.base.specs.Number.{◌⊕◌, ◌⊖◌, ◌⊗◌, ◌⊘◌, bits, zero_f, one_f, half_f, two_f, number_of}
use Rattle.elementary.specs.Parts.{ln2_hi, ln2_lo}
use Rattle.elementary.specs.Log.{ln_of}
use Rattle.log_gamma.specs.Constants.{tc, tc₁, w₀, w₁, w₂, w₃, w₄, w₅, w₆}
use Rattle.log_gamma.specs.Near.{about_two, about_least, about_one, below_three}

-- ln gamma (1 + x), for x from 0 to 0.9
unfoldable pub next_of : Float → Float
next_of x =
    cond (le (bits 0x3fe7_6944_0000_0000) x) (about_two (one_f ⊖ x))
    (cond (le (bits 0x3fcd_a661_0000_0000) x) (about_least (x ⊖ tc₁))
    (about_one x))

-- ln gamma x, for x from 0.9 to 2, but for the sign of its zero at 1
unfoldable pub below_two : Float → Float
below_two x =
    cond (le (bits 0x3ffb_b4c3_0000_0000) x) (about_two (two_f ⊖ x))
    (cond (le (bits 0x3ff3_b4c4_0000_0000) x) (about_least (x ⊖ tc))
    (about_one (x ⊖ one_f)))

-- ln (z gamma v), for v from 2 to 3
unfoldable pub product_of : Float → Float → Float
product_of v z = below_three v ⊕ ln_of z

-- ln (z gamma v), by up to n steps of gamma v = (v - 1) gamma (v - 1), down to a v below 3; the differences are exact
unfoldable pub lowered_of : ℕ → Float → Float → Float
lowered_of zero v z = product_of v z
lowered_of (suc n) v z = cond (lt v (bits 0x4008_0000_0000_0000)) (product_of v z) (lowered_of n (v ⊖ one_f) (z ⊗ (v ⊖ one_f)))

-- ln gamma x, for x from 2 to 8
unfoldable pub below_eight : Float → Float
below_eight x = lowered_of 5 x one_f

-- what Stirling's sum leaves: ln sqrt(2π) - 1/2 and the series in 1/x
unfoldable pub series_of : Float → Float
series_of x =
    let z = one_f ⊘ x in
    let y = z ⊗ z in
    w₀ ⊕ z ⊗ (w₁ ⊕ y ⊗ (w₂ ⊕ y ⊗ (w₃ ⊕ y ⊗ (w₄ ⊕ y ⊗ (w₅ ⊕ y ⊗ w₆)))))

-- (x - 1/2) (ln x - 1) and the series, where ln x is k ln 2 + ln m: k times ln2_hi, less 1, is exact
unfoldable pub stirling_by : Float → Float → Float → Float
stirling_by x k m =
    let a = x ⊖ half_f in
    a ⊗ (k ⊗ ln2_hi ⊖ one_f) ⊕ (a ⊗ (ln_of m ⊕ k ⊗ ln2_lo) ⊕ series_of x)

-- ln gamma x from 8 on: x is 2 ^ k m with m from 1 to 2, both taken from its pattern
unfoldable pub stirling_of : Float → Float
stirling_of x =
    stirling_by x (number_of (to_bits binary64 x / 0x10_0000_0000_0000) ⊖ bits 0x408f_f800_0000_0000)
    (bits (to_bits binary64 x % 0x10_0000_0000_0000 + 0x3ff0_0000_0000_0000))

-- ln gamma x: a NaN stays, below zero there is none, +infinity stays; gamma x is gamma (1 + x) / x below 0.9, and 0.0 + makes the zero at 1 +0
unfoldable pub ln_gamma_of : Float → Float
ln_gamma_of x =
    cond (is_nan x) x
    (cond (lt x zero_f) nan
    (cond (lt x (bits 0x3fec_cccd_0000_0000)) (neg (ln_of x) ⊕ next_of x)
    (cond (lt x two_f) (zero_f ⊕ below_two x)
    (cond (lt x (bits 0x4020_0000_0000_0000)) (below_eight x)
    (cond (eq x (inf false)) x (stirling_of x))))))
