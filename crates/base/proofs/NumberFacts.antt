-- What document 01 says of Rust's `max`, `clamp` and `abs`, as theorems about their definitions. Assumes nothing.
use mathlib.Core.Path.{◌≡◌, refl}
use mathlib.Core.Bool.{true, false}
use lib.Ieee.{Float, nan, inf, fin, lt, le, neg, is_nan, of_bits}
use Rattle.base.specs.Number.{zero_f, max_f, clamp_f, abs_f}
use Rattle.base.proofs.Doubles.{by_test, at_most, at_most_self}

-- ---- `max` with one NaN gives the other number
pub max_of_nan : (b : Float) → max_f nan b ≡ b
unfolding max_f lt is_nan
max_of_nan nan = refl
max_of_nan (inf s) = refl
max_of_nan (fin s m e) = refl

pub max_with_nan : (a : Float) → max_f a nan ≡ a
unfolding max_f lt is_nan
max_with_nan a = refl

-- of two zeros the second
pub max_of_zeros : (max_f zero_f (neg zero_f) ≡ neg zero_f) × (max_f (neg zero_f) zero_f ≡ zero_f)
unfolding max_f lt is_nan neg of_bits
max_of_zeros = (refl, refl)

-- ---- `clamp` of NaN is NaN
pub clamp_of_nan : (lo hi : Float) → clamp_f lo hi nan ≡ nan
unfolding clamp_f lt
clamp_of_nan lo nan = refl
clamp_of_nan lo (inf s) = refl
clamp_of_nan lo (fin s m e) = refl

-- of anything else it lies between its ends
module _ (lo hi x : Float) (low : is_nan lo ≡ false) (high : is_nan hi ≡ false) (number : is_nan x ≡ false) (order : le lo hi ≡ true) where
  pub clamp_from : le lo (clamp_f lo hi x) ≡ true
  unfolding clamp_f
  clamp_from =
      by_test (λ z. le lo z ≡ true) (lt x lo) (λ p. at_most_self lo low)
      (λ p. by_test (λ z. le lo z ≡ true) (lt hi x) (λ q. order) (λ q. at_most x lo number low p))

  pub clamp_to : le (clamp_f lo hi x) hi ≡ true
  unfolding clamp_f
  clamp_to =
      by_test (λ z. le z hi ≡ true) (lt x lo) (λ p. order)
      (λ p. by_test (λ z. le z hi ≡ true) (lt hi x) (λ q. at_most_self hi high) (λ q. at_most hi x high number q))

-- ---- `abs` of -0.0 is +0.0
pub abs_of_minus_zero : abs_f (neg zero_f) ≡ zero_f
unfolding abs_f neg of_bits
abs_of_minus_zero = refl
