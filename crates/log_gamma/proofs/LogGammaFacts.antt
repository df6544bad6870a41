-- What is fixed of ln_gamma: its special arguments, every number below zero, and some values by computation. Document 02, P2. Assumes nothing.
use Rattle.std.proofs.Common.{◌≡◌, true, false, sym, refl}
use lib.Ieee.{Float, nan, inf, add, sub, mul, div, neg, lt, le, eq, is_nan, of_bits, to_bits, of_int}
use Rattle.base.specs.Number.{bits, zero_f}
use Rattle.base.proofs.Doubles.{by_test, is_nan_lem}
use Rattle.elementary.specs.Log.{near_one, ln_near, ln_far, ln_of}
use Rattle.log_gamma.specs.Near.{about_two, about_least, about_one, below_three}
use Rattle.log_gamma.specs.LogGamma.{next_of, below_two, product_of, lowered_of, below_eight, series_of, stirling_by, stirling_of, ln_gamma_of}

-- ---- special arguments
pub at_nan : ln_gamma_of nan ≡ nan
unfolding ln_gamma_of is_nan
at_nan = refl

-- -infinity too
pub below_zero : (x : Float) → lt x zero_f ≡ true → ln_gamma_of x ≡ nan
unfolding ln_gamma_of
below_zero x h = by_test (λ r. r ≡ nan) (is_nan x) (λ t. sym (is_nan_lem x t)) (λ _. rw h)

pub at_minus_infinity : ln_gamma_of (inf true) ≡ nan
unfolding ln_gamma_of is_nan lt of_bits
at_minus_infinity = refl

pub at_zero : ln_gamma_of zero_f ≡ inf false
unfolding ln_gamma_of next_of about_one ln_of near_one ln_far is_nan add sub mul div lt le eq neg of_bits
at_zero = refl

pub at_minus_zero : ln_gamma_of (neg zero_f) ≡ inf false
unfolding ln_gamma_of next_of about_one ln_of near_one ln_far is_nan add sub mul div lt le eq neg of_bits
at_minus_zero = refl

pub at_infinity : ln_gamma_of (inf false) ≡ inf false
unfolding ln_gamma_of is_nan lt eq of_bits
at_infinity = refl

pub at_one : ln_gamma_of (bits 0x3ff0_0000_0000_0000) ≡ zero_f
unfolding ln_gamma_of below_two about_one is_nan add sub mul div lt le neg of_bits
at_one = refl

pub at_two : ln_gamma_of (bits 0x4000_0000_0000_0000) ≡ zero_f
unfolding ln_gamma_of below_eight lowered_of product_of below_three ln_of near_one ln_near is_nan add sub mul div lt le eq of_bits
at_two = refl

-- ---- values of the branches in which no row of ln's table is met: 1.1, 1.5, 1.9, 2.5, 8 and 2^52
pub of_eleven_tenths : ln_gamma_of (bits 0x3ff1_9999_9999_999a) ≡ bits 0xbfa9_88e1_705d_89ea
unfolding ln_gamma_of below_two about_one is_nan add sub mul div lt le neg of_bits
of_eleven_tenths = refl

pub of_three_halves : ln_gamma_of (bits 0x3ff8_0000_0000_0000) ≡ bits 0xbfbe_eb95_b094_c191
unfolding ln_gamma_of below_two about_least is_nan add sub mul lt le of_bits
of_three_halves = refl

pub of_nineteen_tenths : ln_gamma_of (bits 0x3ffe_6666_6666_6666) ≡ bits 0xbfa3_f5bf_3c4b_b75a
unfolding ln_gamma_of below_two about_two is_nan add sub mul lt le of_bits
of_nineteen_tenths = refl

pub of_five_halves : ln_gamma_of (bits 0x4004_0000_0000_0000) ≡ bits 0x3fd2_383e_809a_67e8
unfolding ln_gamma_of below_eight lowered_of product_of below_three ln_of near_one ln_near is_nan add sub mul div lt le eq of_bits
of_five_halves = refl

pub of_eight : ln_gamma_of (bits 0x4020_0000_0000_0000) ≡ bits 0x4021_0ce1_f32d_cc30
unfolding ln_gamma_of stirling_of stirling_by series_of ln_of near_one ln_near is_nan add sub mul div lt le eq of_bits to_bits of_int
of_eight = refl

pub of_two_to_fifty_two : ln_gamma_of (bits 0x4330_0000_0000_0000) ≡ bits 0x4381_8596_6f2b_4f11
unfolding ln_gamma_of stirling_of stirling_by series_of ln_of near_one ln_near is_nan add sub mul div lt le eq of_bits to_bits of_int
of_two_to_fifty_two = refl

-- ---- the other branches, up to the logarithm that they end in: ln gamma (1 + x) at 0.1, 0.5 and 0.8, and the steps down from 3.5 and 7.5
pub next_of_tenth : next_of (bits 0x3fb9_9999_9999_999a) ≡ bits 0xbfa9_88e1_705d_89e5
unfolding next_of about_one add sub mul div le neg of_bits
next_of_tenth = refl

pub next_of_half : next_of (bits 0x3fe0_0000_0000_0000) ≡ bits 0xbfbe_eb95_b094_c191
unfolding next_of about_least add sub mul le of_bits
next_of_half = refl

pub next_of_four_fifths : next_of (bits 0x3fe9_9999_9999_999a) ≡ bits 0xbfb2_328d_7d70_b422
unfolding next_of about_two add sub mul le of_bits
next_of_four_fifths = refl

pub steps_of_seven_halves : ln_gamma_of (bits 0x400c_0000_0000_0000) ≡ product_of (bits 0x4004_0000_0000_0000) (bits 0x4004_0000_0000_0000)
unfolding ln_gamma_of below_eight lowered_of is_nan sub mul lt of_bits
steps_of_seven_halves = refl

pub steps_of_fifteen_halves : ln_gamma_of (bits 0x401e_0000_0000_0000) ≡ product_of (bits 0x4004_0000_0000_0000) (bits 0x4095_fea0_0000_0000)
unfolding ln_gamma_of below_eight lowered_of is_nan sub mul lt of_bits
steps_of_fifteen_halves = refl
