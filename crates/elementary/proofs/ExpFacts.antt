-- What document 01 fixes of exp: its values at NaN, the infinities and the zeros, NaN for NaN only, and never below zero; of exp of two parts that it is no NaN and never below zero. Assumes nothing.
use Rattle.std.proofs.Common.{◌≡◌, ◌+◌, ◌-◌, ◌*◌, ◌<◌, true, false, pos, sym, refl, ap, ◌∙◌, arith, ltb-true, le-ltb}
use lib.Ieee.{Float, nan, inf, fin, up, down, binary64, is_nan, lt, neg, of_bits, add, sum}
use Rattle.base.specs.Number.{◌⊕◌, bits, zero_f, one_f, abs_f}
use Rattle.base.proofs.Doubles.{by_test, ff, not_both}
use Rattle.elementary.specs.Exp.{exp_main, above_zero, exp_two, exp_far, exp_of}
use Rattle.base.proofs.Rounded.{add_number, round_plus}

-- ---- special arguments
pub exp_nan : exp_of nan ≡ nan
unfolding exp_of exp_far abs_f lt of_bits
exp_nan = refl

pub exp_inf : exp_of (inf false) ≡ inf false
unfolding exp_of exp_far abs_f lt of_bits
exp_inf = refl

pub exp_minus_inf : exp_of (inf true) ≡ zero_f
unfolding exp_of exp_far abs_f lt of_bits
exp_minus_inf = refl

pub exp_zero : exp_of zero_f ≡ one_f
unfolding exp_of abs_f lt of_bits add
exp_zero = refl

pub exp_minus_zero : exp_of (neg zero_f) ≡ one_f
unfolding exp_of abs_f lt of_bits add neg
exp_minus_zero = refl

-- ---- NaN for NaN only
pub no_nan : (r : Float) → is_nan r ≡ false → r ≡ nan → ⊥
unfolding is_nan
no_nan r h e = ff (sym h ∙ ap is_nan e)

pub above_number : (z : Float) → lt zero_f z ≡ true → is_nan z ≡ false
unfolding lt is_nan of_bits
above_number nan t = absurd (ff t)
above_number (inf s) t = refl
above_number (fin s m e) t = refl

tiny_nan : (x : Float) → one_f ⊕ x ≡ nan → x ≡ nan
unfolding add of_bits is_nan
tiny_nan nan e = refl
tiny_nan (inf s) e = absurd (no_nan (inf s) refl e)
tiny_nan (fin s m d) e = absurd (no_nan (one_f ⊕ fin s m d) (add_number binary64 false 1 (pos 0) s m d) e)

guard_number : (z : Float) → is_nan (above_zero z) ≡ false
unfolding above_zero is_nan of_bits
guard_number z = by_test (λ r. is_nan r ≡ false) (lt zero_f z) (above_number z) (λ _. refl)

far_nan : (x : Float) → exp_far x ≡ nan → x ≡ nan
unfolding exp_far is_nan of_bits
far_nan x =
    by_test (λ r. r ≡ nan → x ≡ nan) (lt x zero_f) (λ _ e. absurd (no_nan zero_f refl e))
    (λ _. by_test (λ r. r ≡ nan → x ≡ nan) (lt zero_f x) (λ _ e. absurd (no_nan (inf false) refl e)) (λ _ e. e))

pub exp_nan_only : (x : Float) → exp_of x ≡ nan → x ≡ nan
unfolding exp_of
exp_nan_only x =
    by_test (λ r. r ≡ nan → x ≡ nan) (lt (abs_f x) (bits 0x3c90_0000_0000_0000)) (λ _. tiny_nan x)
    (λ _. by_test (λ r. r ≡ nan → x ≡ nan) (lt (abs_f x) (bits 0x4090_0000_0000_0000))
    (λ _ e. absurd (no_nan _ (guard_number (exp_main x)) e)) (λ _. far_nan x))

-- ---- never below zero
-- 1 + x, for |x| below 2^-54
tiny_plus : (x : Float) → lt (abs_f x) (bits 0x3c90_0000_0000_0000) ≡ true → lt (one_f ⊕ x) zero_f ≡ false
unfolding add sum lt abs_f of_bits
tiny_plus nan h = refl
tiny_plus (inf s) h = absurd (ff h)
tiny_plus (fin false m e) h = round_plus binary64 (1 * down e + m * up e * 1) (1 * down e)
tiny_plus (fin true m e) h =
    let l : m * up e * 0x40_0000_0000_0000 < 1 * down e = ltb-true _ _ h in
    rw (le-ltb (1 * down e) (m * up e * 1) (omega arith)) (round_plus binary64 (1 * down e - m * up e * 1) (1 * down e))

guard_plus : (z : Float) → lt (above_zero z) zero_f ≡ false
unfolding above_zero lt of_bits
guard_plus z = by_test (λ r. lt r zero_f ≡ false) (lt zero_f z) (not_both zero_f z) (λ _. refl)

far_plus : (x : Float) → lt (exp_far x) zero_f ≡ false
unfolding exp_far lt of_bits
far_plus x =
    by_test (λ r. lt r zero_f ≡ false) (lt x zero_f) (λ _. refl)
    (λ n. by_test (λ r. lt r zero_f ≡ false) (lt zero_f x) (λ _. refl) (λ _. n))

pub exp_never_below_zero : (x : Float) → lt (exp_of x) zero_f ≡ false
unfolding exp_of
exp_never_below_zero x =
    by_test (λ r. lt r zero_f ≡ false) (lt (abs_f x) (bits 0x3c90_0000_0000_0000)) (tiny_plus x)
    (λ _. by_test (λ r. lt r zero_f ≡ false) (lt (abs_f x) (bits 0x4090_0000_0000_0000)) (λ _. guard_plus (exp_main x)) (λ _. far_plus x))

-- ---- exp of two parts: its last step is the same guard
pub exp_two_number : (x low : Float) → is_nan (exp_two x low) ≡ false
unfolding exp_two
exp_two_number x low = guard_number _

pub exp_two_never_below_zero : (x low : Float) → lt (exp_two x low) zero_f ≡ false
unfolding exp_two
exp_two_never_below_zero x low = guard_plus _
