-- The cases of a square root's argument, by the tests that the code makes. Assumes nothing.
use Rattle.std.proofs.Common.{◌≡◌, ℕ, zero, suc, ◌+◌, ◌*◌, ◌%◌, ◌^◌, ◌<◌, ◌≤◌, Bool, true, false, ◌||◌, T, eqb, ℤ, sym, refl, ap, ◌∙◌, subst, mul-pos, zero-mul, arith, eqb→eq, ltb-false, le-ltb, lt-ltb, leb-false}
use mathlib.Core.Bool.{beq}
use native.Mathlib.Numerals.{lt_of_le_of_ne}
use lib.Ieee.{Float, nan, inf, fin, binary64, of_bits, to_bits, lt, eq, level, fits, is_nan, up, down}
use lib.Ieee.Bits.{nan_bits_is, nan_bits_above, of_bits-to_bits}
use lib.Ieee.Fits.{up_pos, and_l}
use Rattle.base.specs.Number.{bits, zero_f, finite, negative}
use Rattle.base.proofs.Doubles.{ff, sign_bit}
use Rattle.root.specs.Sqrt.{root_of, units_of, sqrt_of}
use Rattle.root.specs.Near.{AboveZero}

-- ---- comparisons with zero
size_pos : (m : ℕ) (e : ℤ) → 0 < suc m * up e * 1
size_pos m e = let p : 0 < suc m * up e = mul-pos (omega arith) (up_pos e) in omega arith

minus_lt : (m : ℕ) (e : ℤ) → lt (fin true (suc m) e) zero_f ≡ true
unfolding lt of_bits
minus_lt m e = lt-ltb 0 (suc m * up e * 1 + 0 * 1 * down e) (omega (arith, size_pos m e))

plus_lt : (m : ℕ) (e : ℤ) → lt (fin false m e) zero_f ≡ false
unfolding lt of_bits
plus_lt m e = le-ltb (m * up e * 1) (0 * 1 * down e) (omega (arith, zero-mul (down e)))

zero_lt : (e : ℤ) → lt (fin true 0 e) zero_f ≡ false
unfolding lt of_bits
zero_lt e = le-ltb 0 (0 * up e * 1 + 0 * 1 * down e) (omega (arith, zero-mul (up e), zero-mul (down e)))

pub zero_above : (s : Bool) (e : ℤ) → lt zero_f (fin s 0 e) ≡ false
unfolding lt of_bits
zero_above true e = refl
zero_above false e = le-ltb (0 * 1 * down e) (0 * up e * 1) (omega (arith, zero-mul (up e), zero-mul (down e)))

zero_eq : (s : Bool) (e : ℤ) → eq (fin s 0 e) zero_f ≡ true
unfolding eq of_bits
zero_eq s e = zero_level s (0 * up e * 1) (0 * 1 * down e) (omega (arith, zero-mul (up e))) (omega (arith, zero-mul (down e)))
  where
    zero_level : (s : Bool) (a b : ℕ) → a ≡ 0 → b ≡ 0 → level s a false b ≡ true
    zero_level true a b p q = rw (p, q) refl
    zero_level false a b p q = rw (p, q) refl

-- ---- the answer of each test
pub of_nan : (x : Float) → is_nan x ≡ true → x ≡ sqrt_of x
unfolding is_nan sqrt_of
of_nan nan h = refl
of_nan (inf s) h = absurd (ff h)
of_nan (fin s m e) h = absurd (ff h)

pub of_below : (x : Float) → lt x zero_f ≡ true → nan ≡ sqrt_of x
unfolding lt of_bits sqrt_of
of_below nan h = refl
of_below (inf true) h = refl
of_below (inf false) h = absurd (ff h)
of_below (fin true zero e) h = absurd (ff (sym (zero_lt e) ∙ h))
of_below (fin false zero e) h = absurd (ff (sym (plus_lt 0 e) ∙ h))
of_below (fin true (suc m) e) h = refl
of_below (fin false (suc m) e) h = absurd (ff (sym (plus_lt (suc m) e) ∙ h))

pub of_zero : (x : Float) → eq x zero_f ≡ true → x ≡ sqrt_of x
unfolding eq of_bits sqrt_of
of_zero nan h = absurd (ff h)
of_zero (inf s) h = absurd (ff h)
of_zero (fin s zero e) h = refl
of_zero (fin s (suc m) e) h =
    let q : suc m * up e * 1 ≡ 0 * 1 * down e = eqb→eq (suc m * up e * 1) (0 * 1 * down e) (and_l (eqb (suc m * up e * 1) (0 * 1 * down e)) (beq s false || eqb (suc m * up e * 1) 0) (subst T (sym h) tt)) in
    absurd (omega (arith, size_pos m e, zero-mul (down e)))

pub of_infinity : (x : Float) → eq x (inf false) ≡ true → x ≡ sqrt_of x
unfolding eq sqrt_of
of_infinity nan h = absurd (ff h)
of_infinity (inf true) h = absurd (ff h)
of_infinity (inf false) h = refl
of_infinity (fin s m e) h = absurd (ff h)

-- ---- what is left after the four tests
pub record Above (x : Float) : Type 0 where
  pub m : ℕ
  pub e : ℤ
  pub is : x ≡ fin false (suc m) e

pub left : (x : Float) → is_nan x ≡ false → lt x zero_f ≡ false → eq x zero_f ≡ false → eq x (inf false) ≡ false → Above x
unfolding is_nan lt eq of_bits
left nan a b c d = absurd (ff (sym a))
left (inf true) a b c d = absurd (ff (sym b))
left (inf false) a b c d = absurd (ff (sym d))
left (fin s zero e) a b c d = absurd (ff (sym c ∙ zero_eq s e))
left (fin true (suc m) e) a b c d = absurd (ff (sym b ∙ minus_lt m e))
left (fin false (suc m) e) a b c d = record { m = m; e = e; is = refl }

pub of_above : (x : Float) → Above x → root_of (units_of x * 2 ^ 1074) ≡ sqrt_of x
unfolding sqrt_of
of_above x a = rw a.is refl

-- ---- patterns: of a finite number at or above zero, and of one above zero
pub pattern_below : (x : Float) → T (fits binary64 x) → finite x ≡ true → negative x ≡ false → to_bits binary64 x < 0x7ff0_0000_0000_0000
unfolding finite is_nan of_bits
pattern_below x f a s =
    let b = to_bits binary64 x in
    let l : b < 0x8000_0000_0000_0000 = leb-false 0x8000_0000_0000_0000 b (sign_bit x f ∙ s) in
    let p : b % 0x8000_0000_0000_0000 ≤ 0x7ff0_0000_0000_0000 =
    ltb-false 0x7ff0_0000_0000_0000 (b % 0x8000_0000_0000_0000) (sym (nan_bits_above binary64 b) ∙ nan_bits_is binary64 b ∙ ap is_nan (of_bits-to_bits binary64 x f) ∙ no_nan x a) in
    lt_of_le_of_ne (omega arith) (λ z. ff (ap finite (sym (ap bits z) ∙ of_bits-to_bits binary64 x f) ∙ a))
  where
    no_nan : (y : Float) → finite y ≡ true → is_nan y ≡ false
    no_nan nan h = absurd (ff h)
    no_nan (inf t) h = absurd (ff h)
    no_nan (fin t m e) h = refl

pub pattern_above : (x : Float) → Above x → T (fits binary64 x) → AboveZero (to_bits binary64 x)
unfolding finite negative of_bits
pattern_above x a f =
    let b = to_bits binary64 x in
    record {
      some = lt_of_le_of_ne (omega arith) (λ z. no_zero a.m a.e (ap bits z ∙ of_bits-to_bits binary64 x f ∙ a.is));
      most = pattern_below x f (ap finite a.is) (ap negative a.is);
    }
  where
    no_zero : (m : ℕ) (e : ℤ) → bits 0 ≡ fin false (suc m) e → ⊥
    no_zero m e q = let z : ◌≡◌ {A = ℕ} 0 1 = cc in omega arith
