-- What document 01 fixes of ln: its values at 1, the zeros, every number below zero, the infinities and NaN. Assumes nothing.
use Rattle.std.proofs.Common.{◌≡◌, ◌+◌, ◌*◌, ◌<◌, Bool, true, false, ◌&&◌, eqb, sym, refl, ◌∙◌, zero-mul, arith, ltb-true, ne_eqb}
use lib.Ieee.{Float, nan, inf, fin, up, down, lt, le, eq, neg, of_bits}
use lib.Ieee.Fits.{down_pos}
use Rattle.base.specs.Number.{zero_f, one_f}
use Rattle.base.proofs.Doubles.{ff}
use Rattle.elementary.specs.Log.{near_one, ln_near, ln_far, ln_of}
use Rattle.base.proofs.Rounded.{plus_fin}

-- ---- special arguments
pub ln_one : ln_of one_f ≡ zero_f
unfolding ln_of near_one ln_near le lt eq of_bits
ln_one = refl

pub ln_zero : ln_of zero_f ≡ inf true
unfolding ln_of near_one ln_far le lt eq of_bits
ln_zero = refl

pub ln_minus_zero : ln_of (neg zero_f) ≡ inf true
unfolding ln_of near_one ln_far le lt eq of_bits neg
ln_minus_zero = refl

pub ln_inf : ln_of (inf false) ≡ inf false
unfolding ln_of near_one ln_far le lt eq of_bits
ln_inf = refl

pub ln_minus_inf : ln_of (inf true) ≡ nan
unfolding ln_of near_one ln_far le lt eq of_bits
ln_minus_inf = refl

pub ln_nan : ln_of nan ≡ nan
unfolding ln_of near_one ln_far le lt eq of_bits
ln_nan = refl

-- ---- below zero
and_false : (b : Bool) → b && false ≡ false
and_false true = refl
and_false false = refl

-- a number below zero is not close to 1
not_near : (x : Float) → lt x zero_f ≡ true → near_one x ≡ false
unfolding near_one le lt eq of_bits
not_near nan h = refl
not_near (inf true) h = refl
not_near (inf false) h = refl
not_near (fin false m e) h = absurd (ff (sym (plus_fin m e) ∙ h))
not_near (fin true m e) h = rw (ne_eqb (15 * down e) 0 (λ z. omega (arith, down_pos e)), and_false (eqb (15 * down e) (m * up e * 16))) refl

-- and differs from zero
not_zero : (x : Float) → lt x zero_f ≡ true → eq x zero_f ≡ false
unfolding lt eq of_bits
not_zero nan h = refl
not_zero (inf s) h = refl
not_zero (fin false m e) h = absurd (ff (sym (plus_fin m e) ∙ h))
not_zero (fin true m e) h =
    let l : 0 < m * up e * 1 + 0 * down e = ltb-true _ _ h in
    rw (ne_eqb (m * up e * 1) 0 (λ z. omega (arith, zero-mul (down e))), and_false (eqb (m * up e * 1) (0 * down e))) refl

pub ln_below_zero : (x : Float) → lt x zero_f ≡ true → ln_of x ≡ nan
unfolding ln_of ln_far
ln_below_zero x h = rw (not_near x h, not_zero x h, h) refl
