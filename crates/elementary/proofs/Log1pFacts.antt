-- What is fixed of ln_1p: its special arguments, every number below -1, and some values by computation. Document 01, module 1. Assumes nothing.
use Rattle.std.proofs.Common.{◌≡◌, true, false, sym, refl}
use lib.Ieee.{Float, nan, inf, add, sub, mul, div, neg, lt, le, eq, is_nan, of_bits, to_bits, of_int}
use Rattle.base.specs.Number.{bits, abs_f}
use Rattle.base.proofs.Doubles.{by_test, is_nan_lem}
use Rattle.elementary.specs.Parts.{minus_one_f}
use Rattle.elementary.specs.Log1p.{tail_of, lost_of, split_of, far_of, ln1p_main, ln1p_of}

-- ---- special arguments
pub below_minus_one : (x : Float) → lt x minus_one_f ≡ true → ln1p_of x ≡ nan
unfolding ln1p_of
below_minus_one x h = by_test (λ r. r ≡ nan) (is_nan x) (λ t. sym (is_nan_lem x t)) (λ _. rw h)

pub at_minus_one : ln1p_of minus_one_f ≡ inf true
unfolding ln1p_of is_nan lt eq neg of_bits
at_minus_one = refl

pub at_nan : ln1p_of nan ≡ nan
unfolding ln1p_of is_nan
at_nan = refl

pub at_infinity : ln1p_of (inf false) ≡ inf false
unfolding ln1p_of is_nan lt eq neg of_bits
at_infinity = refl

pub at_zero : ln1p_of (bits 0) ≡ bits 0
unfolding ln1p_of ln1p_main abs_f is_nan lt eq neg of_bits
at_zero = refl

pub at_minus_zero : ln1p_of (bits 0x8000_0000_0000_0000) ≡ bits 0x8000_0000_0000_0000
unfolding ln1p_of ln1p_main abs_f is_nan lt eq neg of_bits
at_minus_zero = refl

-- ---- one value of each branch: k = 0, below 2, from 2 on, from 54 on
pub of_quarter : ln1p_of (bits 0x3fd0_0000_0000_0000) ≡ bits 0x3fcc_8ff7_c79a_9a22
unfolding ln1p_of ln1p_main tail_of abs_f is_nan add sub mul div lt le eq neg of_bits
of_quarter = refl

pub of_minus_half : ln1p_of (bits 0xbfe0_0000_0000_0000) ≡ bits 0xbfe6_2e42_fefa_39ef
unfolding ln1p_of ln1p_main far_of split_of lost_of tail_of abs_f is_nan add sub mul div lt le eq neg of_bits to_bits of_int
of_minus_half = refl

pub of_hundred : ln1p_of (bits 0x4059_0000_0000_0000) ≡ bits 0x4012_75e2_271b_ba31
unfolding ln1p_of ln1p_main far_of split_of lost_of tail_of abs_f is_nan add sub mul div lt le eq neg of_bits to_bits of_int
of_hundred = refl

pub of_ten_to_seventeen : ln1p_of (bits 0x4376_3457_85d8_a000) ≡ bits 0x4043_926c_d770_aa67
unfolding ln1p_of ln1p_main far_of split_of lost_of tail_of abs_f is_nan add sub mul div lt le eq neg of_bits to_bits of_int
of_ten_to_seventeen = refl
