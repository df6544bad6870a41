-- What is fixed of norm_cdf and norm_pdf: where they are NaN, between what they lie, that they are 0 and 1 from 39 on, that the density is even, and some values by computation. Document 02, P8. Assumes nothing.
use mathlib.Core.Path.{◌≡◌, refl, sym, ap, ◌∙◌}
use mathlib.Core.Bool.{Bool, true, false, ◌&&◌, ◌||◌}
use Prim.Native.Nat.{ℕ, ◌+◌, ◌*◌, ◌<◌}
use native.Mathlib.Nat.{zero-mul}
use native.Mathlib.Omega.{arith}
use borrow.Author.Tests.{lt-ltb, ltb-true, eqb-true}
use lib.Dec.{ltb, eqb}
use lib.Ieee.{Float, nan, inf, fin, up, down, is_nan, lt, le, eq, neg, of_bits, to_bits, add, sub, mul, div}
use lib.Ieee.Fits.{down_pos}
use Rattle.base.specs.Number.{◌⊖◌, bits, zero_f, one_f, half_f, abs_f}
use Rattle.base.proofs.Doubles.{by_test, ff, is_nan_lem, not_both}
use Rattle.base.proofs.Order.{le_turned, below_not_from}
use Rattle.base.proofs.Rounded.{neg_number}
use Rattle.tabulated.specs.ExpTable.{exp_table, exp_row}
use Rattle.elementary.specs.Exp.{reduced, row_tail, scale_bits, excess, scaled, refitted, fitted, small, edge, ended, above_zero, exp_two}
use Rattle.elementary.proofs.ExpFacts.{no_nan, above_number, exp_two_number, exp_two_never_below_zero}
use Rattle.normal.specs.Tail.{on_grid, half_square, half_rest, root_rest, erf_rest, taken_from, tail_near, erfc_near_one, tail_middle, inner_part, outer_part, far_part, tail_by, tail_far, upper_tail}
use Rattle.normal.specs.Normal.{end_f, density_of, norm_pdf, from_zero_to_one, norm_cdf}

-- ---- norm_cdf
-- the last step, whatever it is handed: no NaN, not below zero, not above one
guard_number : (z : Float) → is_nan (from_zero_to_one z) ≡ false
unfolding from_zero_to_one is_nan of_bits
guard_number z =
    by_test (λ r. is_nan r ≡ false) (lt zero_f z)
    (λ h. by_test (λ r. is_nan r ≡ false) (lt z one_f) (λ _. above_number z h) (λ _. refl)) (λ _. refl)

guard_from_zero : (z : Float) → lt (from_zero_to_one z) zero_f ≡ false
unfolding from_zero_to_one lt of_bits
guard_from_zero z =
    by_test (λ r. lt r zero_f ≡ false) (lt zero_f z)
    (λ h. by_test (λ r. lt r zero_f ≡ false) (lt z one_f) (λ _. not_both zero_f z h) (λ _. refl)) (λ _. refl)

guard_to_one : (z : Float) → lt one_f (from_zero_to_one z) ≡ false
unfolding from_zero_to_one lt of_bits
guard_to_one z =
    by_test (λ r. lt one_f r ≡ false) (lt zero_f z)
    (λ _. by_test (λ r. lt one_f r ≡ false) (lt z one_f) (λ h. not_both z one_f h) (λ _. refl)) (λ _. refl)

-- what holds of a NaN, of the two ends and of every guarded number holds of norm_cdf
cdf_by : (P : Float → Type 0) (x : Float) → (is_nan x ≡ true → P x) → P zero_f → P one_f → ((z : Float) → P (from_zero_to_one z)) → P (norm_cdf x)
unfolding norm_cdf
cdf_by P x n a b g =
    by_test P (is_nan x) n
    (λ _. by_test P (le x (neg end_f)) (λ _. a)
    (λ _. by_test P (le end_f x) (λ _. b)
    (λ _. by_test P (lt x zero_f) (λ _. g _) (λ _. g _))))

pub cdf_nan : norm_cdf nan ≡ nan
unfolding norm_cdf is_nan
cdf_nan = refl

pub cdf_nan_only : (x : Float) → norm_cdf x ≡ nan → x ≡ nan
unfolding is_nan of_bits
cdf_nan_only x =
    cdf_by (λ r. r ≡ nan → x ≡ nan) x (λ _ e. e) (λ e. absurd (no_nan zero_f refl e)) (λ e. absurd (no_nan one_f refl e))
    (λ z e. absurd (no_nan _ (guard_number z) e))

pub cdf_not_below_zero : (x : Float) → lt (norm_cdf x) zero_f ≡ false
unfolding lt of_bits
cdf_not_below_zero x = cdf_by (λ r. lt r zero_f ≡ false) x (λ h. rw (← (is_nan_lem x h)) refl) refl refl guard_from_zero

pub cdf_not_above_one : (x : Float) → lt one_f (norm_cdf x) ≡ false
unfolding lt of_bits
cdf_not_above_one x = cdf_by (λ r. lt one_f r ≡ false) x (λ h. rw (← (is_nan_lem x h)) refl) refl refl guard_to_one

-- up to -39, -infinity too
pub cdf_low : (x : Float) → le x (neg end_f) ≡ true → norm_cdf x ≡ zero_f
unfolding norm_cdf le lt eq
cdf_low x h = by_test (λ r. r ≡ zero_f) (is_nan x) (λ n. absurd (ff (ap (λ z. le z (neg end_f)) (is_nan_lem x n) ∙ h))) (λ _. rw h refl)

-- two tests of which not both can pass
never : (p q : Bool) → (p ≡ true → q ≡ true → ⊥) → p && q ≡ false
never true true f = absurd (f refl refl)
never true false f = refl
never false q f = refl

-- what is not below a number above zero is above zero
reached : (a b : ℕ) (q : Bool) → 0 < b → ltb b a || eqb b a && q ≡ true → 0 < a
reached a b q l = by_tests (ltb b a) (eqb b a) refl refl
  where
    by_tests : (s t : Bool) → ltb b a ≡ s → eqb b a ≡ t → s || t && q ≡ true → 0 < a
    by_tests true t u v h = omega (arith, ltb-true b a u)
    by_tests false true u v h = omega (arith, l, eqb-true b a v)
    by_tests false false u v h = absurd (ff h)

-- a number above zero is not up to -39
above_not_low : (x : Float) → lt zero_f x ≡ true → le x (neg end_f) ≡ false
unfolding le lt eq neg of_bits
above_not_low nan h = refl
above_not_low (inf true) h = absurd (ff h)
above_not_low (inf false) h = refl
above_not_low (fin true m e) h = absurd (ff h)
above_not_low (fin false m e) h =
    never (eqb (m * up e * 1) (39 * down e)) (eqb (m * up e * 1) 0)
    (λ p z. omega (arith, down_pos e, eqb-true (m * up e * 1) (39 * down e) p, eqb-true (m * up e * 1) 0 z))

-- a number from 39 on is above zero
high_above : (x : Float) → le end_f x ≡ true → lt zero_f x ≡ true
unfolding le lt eq of_bits
high_above nan h = absurd (ff h)
high_above (inf true) h = absurd (ff h)
high_above (inf false) h = refl
high_above (fin true m e) h =
    absurd (ff (sym (never (eqb (39 * down e) (m * up e * 1)) (eqb (39 * down e) 0) (λ _ z. omega (arith, down_pos e, eqb-true (39 * down e) 0 z))) ∙ h))
high_above (fin false m e) h =
    lt-ltb (0 * down e) (m * up e * 1)
    (omega (arith, zero-mul (down e), reached (m * up e * 1) (39 * down e) true (omega (arith, down_pos e)) h))

-- from 39 on, +infinity too
pub cdf_high : (x : Float) → le end_f x ≡ true → norm_cdf x ≡ one_f
unfolding norm_cdf le lt eq of_bits
cdf_high x h =
    by_test (λ r. r ≡ one_f) (is_nan x) (λ n. absurd (ff (ap (le end_f) (is_nan_lem x n) ∙ h)))
    (λ _. rw (above_not_low x (high_above x h), h) refl)

-- a minus turns the tests of norm_cdf
twice : (x : Float) → neg (neg x) ≡ x
unfolding neg
twice nan = refl
twice (inf true) = refl
twice (inf false) = refl
twice (fin true m e) = refl
twice (fin false m e) = refl

turned : (x y : Float) → le (neg y) (neg x) ≡ false → le x y ≡ false
turned x y h = by_tests (le x y) refl
  where
    by_tests : (t : Bool) → le x y ≡ t → t ≡ false
    by_tests true e = sym (le_turned x y e) ∙ h
    by_tests false e = refl

below_turned : (x : Float) → lt zero_f x ≡ true → lt (neg x) zero_f ≡ true
unfolding lt neg of_bits
below_turned nan h = absurd (ff h)
below_turned (inf true) h = absurd (ff h)
below_turned (inf false) h = refl
below_turned (fin true m e) h = absurd (ff h)
below_turned (fin false m e) h = lt-ltb 0 (m * up e * 1 + 0 * down e) (omega (arith, ltb-true (0 * down e) (m * up e * 1) h))

-- on either side of zero one tail t is taken: guarded as it is, and as 1 - t
pub cdf_mirrored : (x : Float) → lt zero_f x ≡ true → lt x end_f ≡ true → (norm_cdf (neg x) ≡ from_zero_to_one (upper_tail x)) × (norm_cdf x ≡ from_zero_to_one (one_f ⊖ upper_tail x))
unfolding norm_cdf
cdf_mirrored x l h =
    let n : is_nan x ≡ false = above_number x l in
    let a : le x (neg end_f) ≡ false = above_not_low x l in
    let b : le end_f x ≡ false = below_not_from x end_f h in
    (rw (neg_number x n, turned (neg x) (neg end_f) (rw (twice x, twice end_f) b), turned end_f (neg x) (rw (twice x) a), below_turned x l, twice x) refl, rw (n, a, b, not_both zero_f x l) refl)

-- ---- norm_pdf
pdf_by : (P : Float → Type 0) (x : Float) → (is_nan x ≡ true → P x) → P zero_f → ((y : Float) → P (density_of y)) → P (norm_pdf x)
unfolding norm_pdf
pdf_by P x n a g = by_test P (is_nan x) n (λ _. by_test P (le end_f (abs_f x)) (λ _. a) (λ _. g _))

density_number : (y : Float) → is_nan (density_of y) ≡ false
unfolding density_of
density_number y = exp_two_number _ _

density_from_zero : (y : Float) → lt (density_of y) zero_f ≡ false
unfolding density_of
density_from_zero y = exp_two_never_below_zero _ _

pub pdf_nan : norm_pdf nan ≡ nan
unfolding norm_pdf is_nan
pdf_nan = refl

pub pdf_nan_only : (x : Float) → norm_pdf x ≡ nan → x ≡ nan
unfolding is_nan of_bits
pdf_nan_only x =
    pdf_by (λ r. r ≡ nan → x ≡ nan) x (λ _ e. e) (λ e. absurd (no_nan zero_f refl e)) (λ y e. absurd (no_nan _ (density_number y) e))

pub pdf_never_below_zero : (x : Float) → lt (norm_pdf x) zero_f ≡ false
unfolding lt of_bits
pdf_never_below_zero x = pdf_by (λ r. lt r zero_f ≡ false) x (λ h. rw (← (is_nan_lem x h)) refl) refl density_from_zero

-- for |x| from 39 on, the infinities too
pub pdf_far : (x : Float) → le end_f (abs_f x) ≡ true → norm_pdf x ≡ zero_f
unfolding norm_pdf le lt eq abs_f of_bits
pdf_far x h =
    by_test (λ r. r ≡ zero_f) (is_nan x) (λ n. absurd (ff (ap (λ z. le end_f (abs_f z)) (is_nan_lem x n) ∙ h))) (λ _. rw h refl)

pub pdf_even : (x : Float) → norm_pdf (neg x) ≡ norm_pdf x
unfolding norm_pdf neg is_nan abs_f
pdf_even nan = refl
pdf_even (inf s) = refl
pdf_even (fin s m e) = refl

-- ---- values of every branch, computed by the checker
pub cdf_zeros : (norm_cdf zero_f ≡ half_f) × (norm_cdf (neg zero_f) ≡ half_f)
unfolding norm_cdf from_zero_to_one upper_tail tail_near taken_from on_grid half_square half_rest root_rest erf_rest is_nan add sub mul div lt le eq neg of_bits
cdf_zeros = (refl, refl)

-- at -0.5, 0.5 and -1.125
pub cdf_near : (norm_cdf (bits 0xbfe0_0000_0000_0000) ≡ bits 0x3fd3_bf14_3b9a_a712) × (norm_cdf (bits 0x3fe0_0000_0000_0000) ≡ bits 0x3fe6_2075_e232_ac77) × (norm_cdf (bits 0xbff2_0000_0000_0000) ≡ bits 0x3fc0_ad7d_a0f9_b0b9)
unfolding norm_cdf from_zero_to_one upper_tail tail_near taken_from on_grid half_square half_rest root_rest erf_rest is_nan add sub mul div lt le eq neg of_bits
cdf_near = (refl, refl, refl)

-- at -1.5 and 1.5
pub cdf_middle : (norm_cdf (bits 0xbff8_0000_0000_0000) ≡ bits 0x3fb1_1a46_d896_47ef) × (norm_cdf (bits 0x3ff8_0000_0000_0000) ≡ bits 0x3fed_dcb7_24ed_3702)
unfolding norm_cdf from_zero_to_one upper_tail tail_middle on_grid root_rest erfc_near_one is_nan add sub mul div lt le eq neg of_bits
cdf_middle = (refl, refl)

-- at -2, 2 and -3
pub cdf_inner : (norm_cdf (bits 0xc000_0000_0000_0000) ≡ bits 0x3f97_4bcf_82c9_d860) × (norm_cdf (bits 0x4000_0000_0000_0000) ≡ bits 0x3fef_45a1_83e9_b13d) × (norm_cdf (bits 0xc008_0000_0000_0000) ≡ bits 0x3f56_1de1_f985_b5d7)
unfolding norm_cdf from_zero_to_one upper_tail tail_far tail_by far_part inner_part on_grid half_square half_rest exp_two above_zero ended scaled excess scale_bits row_tail reduced exp_table exp_row abs_f to_bits is_nan add sub mul div lt le eq neg of_bits
cdf_inner = (refl, refl, refl)

-- at -8 and -38
pub cdf_outer : (norm_cdf (bits 0xc020_0000_0000_0000) ≡ bits 0x3cc6_69d2_c90d_55ce) × (norm_cdf (bits 0xc043_0000_0000_0000) ≡ bits 0x0000_0000_037b_23b8)
unfolding norm_cdf from_zero_to_one upper_tail tail_far tail_by far_part outer_part on_grid half_square half_rest exp_two above_zero ended edge small fitted refitted scaled excess scale_bits row_tail reduced exp_table exp_row abs_f to_bits is_nan add sub mul div lt le eq neg of_bits
cdf_outer = (refl, refl)

pub pdf_zeros : (norm_pdf zero_f ≡ bits 0x3fd9_8845_33d4_3651) × (norm_pdf (neg zero_f) ≡ bits 0x3fd9_8845_33d4_3651)
unfolding norm_pdf density_of on_grid half_square half_rest exp_two above_zero ended edge small fitted refitted scaled excess scale_bits row_tail reduced exp_table exp_row abs_f to_bits is_nan add sub mul div lt le eq neg of_bits
pdf_zeros = (refl, refl)

-- at 1, -3, 8 and 38
pub pdf_computed : (norm_pdf (bits 0x3ff0_0000_0000_0000) ≡ bits 0x3fce_f8e5_8e33_1737) × (norm_pdf (bits 0xc008_0000_0000_0000) ≡ bits 0x3f72_2721_3fd7_7689) × (norm_pdf (bits 0x4020_0000_0000_0000) ≡ bits 0x3cf6_c0df_3a09_4834) × (norm_pdf (bits 0x4043_0000_0000_0000) ≡ bits 0x0000_0000_845e_b885)
unfolding norm_pdf density_of on_grid half_square half_rest exp_two above_zero ended edge small fitted refitted scaled excess scale_bits row_tail reduced exp_table exp_row abs_f to_bits is_nan add sub mul div lt le eq neg of_bits
pdf_computed = (refl, refl, refl, refl)
