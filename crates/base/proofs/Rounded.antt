-- Laws of results: rounded ones are no NaN, sums, quotients and minus of numbers are none, and none with the sign of a number above zero is below zero. Assumes nothing.
use mathlib.Core.Path.{◌≡◌, refl, sym, ap, ◌∙◌}
use mathlib.Core.Bool.{Bool, true, false, beq}
use Prim.Native.Nat.{ℕ, zero, suc, ◌+◌, ◌*◌, ◌^◌}
use native.Mathlib.Nat.{zero-mul}
use native.Mathlib.Omega.{arith}
use borrow.Author.Tests.{le-ltb}
use lib.Dec.{eqb, ltb}
use lib.IntN.{ℤ, pos}
use lib.Ieee.{Float, Format, nan, inf, fin, unlike, up, down, low, emax, prec, odd, units, round, sum, binary64, neg, add, div, lt, is_nan, of_bits}
use Rattle.base.specs.Number.{◌⊕◌, ◌⊘◌, zero_f, one_f}
use Rattle.base.proofs.Doubles.{ff, by_test, is_nan_lem}

-- ---- no NaN
odd_number : (d : ℕ) (s : Bool) (q k l : ℕ) → is_nan (odd d s q k l) ≡ false
unfolding odd is_nan
odd_number d s zero k l = refl
odd_number d s (suc q) k l = refl

units_number : (f : Format) (s : Bool) (q k : ℕ) → is_nan (units f s q k) ≡ false
unfolding units is_nan
units_number f s q k = by_test (λ r. is_nan r ≡ false) (ltb (q * 2 ^ k) (2 ^ (low f + suc (emax f)))) (λ _. odd_number (suc (prec f)) s q k (low f)) (λ _. refl)

pub round_number : (f : Format) (s : Bool) (n d : ℕ) → is_nan (round f s n d) ≡ false
unfolding round
round_number f s n d = units_number f s _ _

sum_number : (f : Format) (s : Bool) (a : ℕ) (t : Bool) (b c : ℕ) → is_nan (sum f s a t b c) ≡ false
unfolding sum
sum_number f s a t b c =
    by_test (λ r. is_nan r ≡ false) (beq s t) (λ _. round_number f s _ c)
    (λ _. by_test (λ r. is_nan r ≡ false) (ltb a b) (λ _. round_number f t _ c) (λ _. round_number f _ _ c))

-- a sum of finite numbers
pub add_number : (f : Format) (s : Bool) (m : ℕ) (e : ℤ) (t : Bool) (n : ℕ) (d : ℤ) → is_nan (add f (fin s m e) (fin t n d)) ≡ false
unfolding add
add_number f s m e t n d = sum_number f s (m * up e * down d) t (n * up d * down e) (down e * down d)

-- ---- of numbers, whatever they are
pub neg_number : (x : Float) → is_nan x ≡ false → is_nan (neg x) ≡ false
unfolding is_nan neg
neg_number nan h = absurd (ff (sym h))
neg_number (inf s) h = refl
neg_number (fin s m e) h = refl

pub one_plus_number : (x : Float) → is_nan x ≡ false → is_nan (one_f ⊕ x) ≡ false
unfolding is_nan add of_bits
one_plus_number nan h = absurd (ff (sym h))
one_plus_number (inf s) h = refl
one_plus_number (fin s m e) h = add_number binary64 false 1 (pos 0) s m e

over_number : (s : Bool) (m : ℕ) (e : ℤ) (t : Bool) (n : ℕ) (d : ℤ) → eqb m 0 ≡ false → is_nan (div binary64 (fin s m e) (fin t n d)) ≡ false
unfolding is_nan div
over_number s m e t n d h =
    by_test (λ z. is_nan z ≡ false) (eqb n 0) (λ _. rw h) (λ _. round_number binary64 (unlike s t) (m * up e * down d) (n * up d * down e))

pub one_over_number : (x : Float) → is_nan x ≡ false → is_nan (one_f ⊘ x) ≡ false
unfolding is_nan div of_bits
one_over_number nan h = absurd (ff (sym h))
one_over_number (inf s) h = refl
one_over_number (fin s m e) h = over_number false 1 (pos 0) s m e refl

-- a function that gives a NaN for NaN only gives a number for a number
pub number_of : (f : Float → Float) → ((x : Float) → f x ≡ nan → x ≡ nan) → (x : Float) → is_nan x ≡ false → is_nan (f x) ≡ false
unfolding is_nan
number_of f only x h = by_case (is_nan (f x)) refl
  where
    by_case : (b : Bool) → is_nan (f x) ≡ b → is_nan (f x) ≡ false
    by_case true e = absurd (ff (sym h ∙ ap is_nan (only x (sym (is_nan_lem (f x) e)))))
    by_case false e = e

-- ---- not below zero
pub plus_fin : (m : ℕ) (e : ℤ) → lt (fin false m e) zero_f ≡ false
unfolding lt of_bits
plus_fin m e = le-ltb (m * up e * 1) (0 * down e) (omega (arith, zero-mul (down e)))

plus_odd : (d q k l : ℕ) → lt (odd d false q k l) zero_f ≡ false
unfolding odd
plus_odd d zero k l = plus_fin _ _
plus_odd d (suc q) k l = plus_fin _ _

plus_units : (f : Format) (q k : ℕ) → lt (units f false q k) zero_f ≡ false
unfolding units lt of_bits
plus_units f q k = by_test (λ r. lt r zero_f ≡ false) (ltb (q * 2 ^ k) (2 ^ (low f + suc (emax f)))) (λ _. plus_odd (suc (prec f)) q k (low f)) (λ _. refl)

pub round_plus : (f : Format) (n d : ℕ) → lt (round f false n d) zero_f ≡ false
unfolding round
round_plus f n d = plus_units f _ _
