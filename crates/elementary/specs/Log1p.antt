-- ln_1p: ln(1 + x) as ordered operations, fdlibm's algorithm as musl's log1p.c has it. Document 01, module 1; docs/ELEMENTARY.md has method and bound. Assumes nothing.
use Rattle.std.specs.Prelude.{ℕ, ◌+◌, ◌/◌, ◌%◌, true, false, cond, is_nan, nat_lt, to_bits, Float}
use Rattle.std.specs.Float.{nan, inf, binary64}
use Rattle.std.specs.Float.Ieee.{neg, lt, le, eq}
use Rattle.base.specs.Number.{◌⊕◌, ◌⊖◌, ◌⊗◌, ◌⊘◌, bits, zero_f, one_f, half_f, two_f, number_of, abs_f}
use Rattle.elementary.specs.Parts.{minus_one_f, ln2_hi, ln2_lo}

-- ln(1 + f) + k ln 2 + c: s (f² / 2 + R) + (k ln2_lo + c) - f² / 2 + f + k ln2_hi, with s = f / (2 + f) and R a polynomial in s², its odd terms and its even ones
unfoldable pub tail_of : Float → Float → Float → Float
tail_of f k c =
    let h = half_f ⊗ f ⊗ f in
    let s = f ⊘ (two_f ⊕ f) in
    let z = s ⊗ s in
    let w = z ⊗ z in
    let even = w ⊗ (bits 0x3fd9_9999_9997_fa04 ⊕ w ⊗ (bits 0x3fcc_71c5_1d8e_78af ⊕ w ⊗ bits 0x3fc3_9a09_d078_c69f)) in
    let odd = z ⊗ (bits 0x3fe5_5555_5555_5593 ⊕ w ⊗ (bits 0x3fd2_4924_9422_9359 ⊕ w ⊗ (bits 0x3fc7_4664_96cb_03de ⊕ w ⊗ bits 0x3fc2_f112_df3e_5244))) in
    s ⊗ (h ⊕ (odd ⊕ even)) ⊕ (k ⊗ ln2_lo ⊕ c) ⊖ h ⊕ f ⊕ k ⊗ ln2_hi

-- what u = 1 + x lost to rounding, over u: nothing that counts from k = 54 on; n is k + 1023
unfoldable pub lost_of : Float → Float → ℕ → Float
lost_of x u n =
    cond (nat_lt n 1077) (cond (nat_lt n 1025) ((x ⊖ (u ⊖ one_f)) ⊘ u) ((one_f ⊖ (u ⊖ x)) ⊘ u)) zero_f

-- u is 2 ^ k (1 + f), with 1 + f from sqrt(1/2) to sqrt(2): b is its pattern, moved so that the exponent's field counts from sqrt(1/2)
unfoldable pub split_of : Float → Float → ℕ → Float
split_of x u b =
    tail_of (bits (b % 0x10_0000_0000_0000 + 0x3fe6_a09e_0000_0000) ⊖ one_f)
    (number_of (b / 0x10_0000_0000_0000) ⊖ bits 0x408f_f800_0000_0000)
    (lost_of x u (b / 0x10_0000_0000_0000))

-- x split with u = 1 + x: the sign taken off its pattern, which is moved by the distance from sqrt(1/2) to 1
unfoldable pub far_of : Float → Float
far_of x = split_of x (one_f ⊕ x) (to_bits binary64 (one_f ⊕ x) % 0x8000_0000_0000_0000 + 0x9_5f62_0000_0000)

-- a finite x above -1: x itself below 2 ^ -53; k = 0 where 1 + x lies between sqrt(1/2) and sqrt(2)
unfoldable pub ln1p_main : Float → Float
ln1p_main x =
    cond (lt (abs_f x) (bits 0x3ca0_0000_0000_0000)) x
    (cond (le x (neg (bits 0x3fd2_bec5_0000_0000))) (far_of x)
    (cond (le (bits 0x3fda_827a_0000_0000) x) (far_of x)
    (tail_of x zero_f zero_f)))

-- ln(1 + x): a NaN stays, below -1 there is none, at -1 it is -infinity, and +infinity stays
unfoldable pub ln1p_of : Float → Float
ln1p_of x =
    cond (is_nan x) x
    (cond (lt x minus_one_f) nan
    (cond (eq x minus_one_f) (inf true)
    (cond (eq x (inf false)) x (ln1p_main x))))
