-- What is fixed of norm_quantile: its special arguments, every number outside 0 to 1, and some values by computation. Document 02, P8. Assumes nothing.
use mathlib.Core.Path.{◌≡◌, refl, sym}
use mathlib.Core.Bool.{true, false}
use lib.Ieee.{Float, nan, inf, add, sub, mul, div, neg, lt, le, eq, is_nan, of_bits, to_bits, of_int}
use Rattle.base.specs.Number.{bits, zero_f, one_f, half_f, abs_f}
use Rattle.base.proofs.Doubles.{by_test, is_nan_lem}
use Rattle.tabulated.specs.ExpTable.{exp_table, exp_row}
use Rattle.tabulated.specs.LogTable.{log_table, log_row}
use Rattle.elementary.specs.Exp.{reduced, row_tail, scale_bits, excess, scaled, ended, above_zero, exp_two}
use Rattle.elementary.specs.LogPoly.{near_poly, near_sum, near_of, ln_sum}
use Rattle.elementary.specs.Log.{near_one, ln_row, ln_main, ln_far, ln_of}
use Rattle.normal.specs.Tail.{on_grid, half_square, half_rest, root_rest, erf_rest, taken_from, tail_near, upper_tail}
use Rattle.normal.specs.Normal.{density_of}
use Rattle.normal.specs.Quantile.{central_of, near_part, distant_part, guess_by, guess_of, upper_quantile, inside_of, norm_quantile}

-- ---- special arguments
pub at_nan : norm_quantile nan ≡ nan
unfolding norm_quantile is_nan
at_nan = refl

-- -infinity too
pub below_zero : (p : Float) → lt p zero_f ≡ true → norm_quantile p ≡ nan
unfolding norm_quantile
below_zero p h = by_test (λ r. r ≡ nan) (is_nan p) (λ t. sym (is_nan_lem p t)) (λ _. rw h refl)

-- +infinity too
pub above_one : (p : Float) → lt one_f p ≡ true → norm_quantile p ≡ nan
unfolding norm_quantile
above_one p h =
    by_test (λ r. r ≡ nan) (is_nan p) (λ t. sym (is_nan_lem p t))
    (λ _. by_test (λ r. r ≡ nan) (lt p zero_f) (λ _. refl) (λ _. rw h refl))

pub at_zero : norm_quantile zero_f ≡ inf true
unfolding norm_quantile is_nan lt eq of_bits
at_zero = refl

pub at_minus_zero : norm_quantile (neg zero_f) ≡ inf true
unfolding norm_quantile is_nan lt eq neg of_bits
at_minus_zero = refl

pub at_one : norm_quantile one_f ≡ inf false
unfolding norm_quantile is_nan lt eq of_bits
at_one = refl

pub at_half : norm_quantile half_f ≡ zero_f
unfolding norm_quantile inside_of central_of is_nan abs_f add sub mul div lt le eq of_bits
at_half = refl

-- ---- values, computed by the checker
-- at 0.3 and 0.75
pub in_the_middle : (norm_quantile (bits 0x3fd3_3333_3333_3333) ≡ bits 0xbfe0_c7e3_9582_c5fc) × (norm_quantile (bits 0x3fe8_0000_0000_0000) ≡ bits 0x3fe5_956b_8752_8a49)
unfolding norm_quantile inside_of central_of is_nan abs_f add sub mul div lt le eq neg of_bits
in_the_middle = (refl, refl)

-- at 0.2 and 0.8125: the middle's form and one of Newton's steps
pub with_a_step : (norm_quantile (bits 0x3fc9_9999_9999_999a) ≡ bits 0xbfea_ee8f_a73a_1333) × (norm_quantile (bits 0x3fea_0000_0000_0000) ≡ bits 0x3fec_6381_2e37_d718)
unfolding norm_quantile inside_of central_of upper_quantile guess_of upper_tail tail_near taken_from on_grid half_square half_rest root_rest erf_rest density_of exp_two above_zero ended scaled excess scale_bits row_tail reduced exp_table exp_row to_bits is_nan abs_f add sub mul div lt le eq neg of_bits
with_a_step = (refl, refl)

-- the guess where sqrt(-2 ln t) is 4 and 16
pub guess_in_the_tail : (guess_by (bits 0x4010_0000_0000_0000) ≡ bits 0x400b_35a4_7ecc_4b2f) × (guess_by (bits 0x4030_0000_0000_0000) ≡ bits 0x402f_8959_f0fe_4743)
unfolding guess_by near_part distant_part ln_of ln_far ln_main ln_row near_one ln_sum near_of near_sum near_poly log_table log_row of_bits to_bits of_int lt le eq add sub mul div
guess_in_the_tail = (refl, refl)
