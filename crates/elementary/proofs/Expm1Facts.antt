-- What is fixed of exp_m1: NaN for NaN only, never below -1; its special arguments, and some values by computation. Document 01, module 1. Assumes nothing.
use Rattle.std.proofs.Common.{◌≡◌, true, false, sym, refl, ap, ◌∙◌}
use lib.Ieee.{Float, nan, inf, fin, add, sub, mul, div, neg, lt, le, eq, is_nan, of_bits, of_int, to_unsigned}
use Rattle.base.specs.Number.{bits, abs_f}
use Rattle.base.proofs.Doubles.{ff, by_test, is_nan_lem, not_both}
use Rattle.elementary.specs.Parts.{minus_one_f, whole_of, power_of, inverse_power_of}
use Rattle.elementary.specs.Expm1.{quotient_of, rest_of, scaled_of, up_of, down_of, grown_of, shrunk_of, grown_by, shrunk_by, rising_of, falling_of, expm1_main, above_minus_one, expm1_of}

-- ---- from the guard alone
guard_number : (z : Float) → is_nan (above_minus_one z) ≡ false
unfolding above_minus_one is_nan neg of_bits lt
guard_number z = by_test (λ r. is_nan r ≡ false) (lt minus_one_f z) (number z) (λ _. refl)
  where
    number : (y : Float) → lt minus_one_f y ≡ true → is_nan y ≡ false
    number nan h = absurd (ff h)
    number (inf s) h = refl
    number (fin s m e) h = refl

-- exp_m1 gives NaN for NaN only
pub nan_only : (x : Float) → is_nan (expm1_of x) ≡ true → x ≡ nan
unfolding expm1_of
nan_only x = by_test (λ r. is_nan r ≡ true → x ≡ nan) (is_nan x) (λ t _. sym (is_nan_lem x t)) (λ _ e. absurd (ff (sym (guard_number (expm1_main x)) ∙ e)))

-- exp_m1 is never below -1
pub not_below_minus_one : (x : Float) → lt (expm1_of x) minus_one_f ≡ false
unfolding expm1_of above_minus_one lt neg of_bits
not_below_minus_one x =
    by_test (λ r. lt r minus_one_f ≡ false) (is_nan x) (λ t. ap (λ y. lt y minus_one_f) (sym (is_nan_lem x t)))
    (λ _. by_test (λ r. lt r minus_one_f ≡ false) (lt minus_one_f (expm1_main x)) (λ t. not_both minus_one_f (expm1_main x) t) (λ _. refl))

-- ---- special arguments
pub at_nan : expm1_of nan ≡ nan
unfolding expm1_of is_nan
at_nan = refl

pub at_zero : expm1_of (bits 0) ≡ bits 0
unfolding expm1_of above_minus_one expm1_main abs_f is_nan lt le eq neg of_bits
at_zero = refl

pub at_minus_zero : expm1_of (bits 0x8000_0000_0000_0000) ≡ bits 0x8000_0000_0000_0000
unfolding expm1_of above_minus_one expm1_main abs_f is_nan lt le eq neg of_bits
at_minus_zero = refl

pub at_infinity : expm1_of (inf false) ≡ inf false
unfolding expm1_of above_minus_one expm1_main is_nan lt mul neg of_bits
at_infinity = refl

pub at_minus_infinity : expm1_of (inf true) ≡ minus_one_f
unfolding expm1_of above_minus_one expm1_main is_nan lt le eq neg of_bits
at_minus_infinity = refl

-- ---- one value of each branch: k = 0, 1, -1, 2 to 19, 20 to 56, above 56, 1024, below -1
pub of_quarter : expm1_of (bits 0x3fd0_0000_0000_0000) ≡ bits 0x3fd2_2d78_f0fa_061a
unfolding expm1_of above_minus_one expm1_main quotient_of abs_f is_nan add sub mul div lt le eq neg of_bits
of_quarter = refl

pub of_one : expm1_of (bits 0x3ff0_0000_0000_0000) ≡ bits 0x3ffb_7e15_1628_aed2
unfolding expm1_of above_minus_one expm1_main rising_of grown_of up_of rest_of quotient_of abs_f is_nan add sub mul div lt le eq neg of_bits
of_one = refl

pub of_minus_half : expm1_of (bits 0xbfe0_0000_0000_0000) ≡ bits 0xbfd9_2e9a_0720_d3ec
unfolding expm1_of above_minus_one expm1_main falling_of shrunk_of down_of rest_of quotient_of abs_f is_nan add sub mul div lt le eq neg of_bits
of_minus_half = refl

pub of_three : expm1_of (bits 0x4008_0000_0000_0000) ≡ bits 0x4033_15e5_bf6f_b106
unfolding expm1_of above_minus_one expm1_main rising_of grown_by grown_of up_of scaled_of rest_of quotient_of whole_of power_of inverse_power_of abs_f is_nan add sub mul div lt le eq neg of_bits of_int to_unsigned
of_three = refl

pub of_thirty : expm1_of (bits 0x403e_0000_0000_0000) ≡ bits 0x42a3_7047_0aec_26ed
unfolding expm1_of above_minus_one expm1_main rising_of grown_by grown_of up_of scaled_of rest_of quotient_of whole_of power_of inverse_power_of abs_f is_nan add sub mul div lt le eq neg of_bits of_int to_unsigned
of_thirty = refl

pub of_hundred : expm1_of (bits 0x4059_0000_0000_0000) ≡ bits 0x48f3_494a_9b17_1bf5
unfolding expm1_of above_minus_one expm1_main rising_of grown_by grown_of up_of scaled_of rest_of quotient_of whole_of power_of inverse_power_of abs_f is_nan add sub mul div lt le eq neg of_bits of_int to_unsigned
of_hundred = refl

pub of_nearly_most : expm1_of (bits 0x4086_2c00_0000_0000) ≡ bits 0x7fe8_1e9b_4b52_d0c9
unfolding expm1_of above_minus_one expm1_main rising_of grown_by grown_of up_of scaled_of rest_of quotient_of whole_of power_of inverse_power_of abs_f is_nan add sub mul div lt le eq neg of_bits of_int to_unsigned
of_nearly_most = refl

pub of_minus_five : expm1_of (bits 0xc014_0000_0000_0000) ≡ bits 0xbfef_c8cd_803f_e559
unfolding expm1_of above_minus_one expm1_main falling_of shrunk_by shrunk_of down_of rest_of quotient_of whole_of power_of inverse_power_of abs_f is_nan add sub mul div lt le eq neg of_bits of_int to_unsigned
of_minus_five = refl
