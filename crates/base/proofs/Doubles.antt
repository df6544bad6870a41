-- Laws of single doubles: NaN, order, signs and bit patterns. Assumes nothing.
use mathlib.Core.Path.{◌≡◌, refl, sym, ap, ◌∙◌}
use mathlib.Core.Bool.{Bool, true, false, not, cond, ◌||◌, true≢false}
use mathlib.Core.Logic.{⊎_elim}
use Prim.Native.Nat.{ℕ, zero, suc, ◌+◌, ◌*◌, ◌/◌, ◌%◌, ◌<◌, ◌≤◌}
use native.Mathlib.Nat.{eq-or-lt_of_le}
use native.Mathlib.Omega.{arith}
use borrow.Author.Tests.{lt-ltb, le-ltb, eq-eqb, ltb-true, ltb-false}
use lib.Dec.{T, leb, ltb, eqb}
use lib.Ieee.{Float, nan, inf, fin, up, down, below, level, binary64, add, mul, div, of_bits, to_bits, of_fields, odd, nan_bits, is_nan, fits, neg, lt, eq, le, ne, top, hid}
use lib.Ieee.Bits.{nan_bits_is, nan_bits_above, of_bits-to_bits}
use Rattle.base.specs.Number.{◌⊕◌, ◌⊗◌, bits, zero_f, finite, infinite, negative, abs_f}

-- ---- tests
pub ff : false ≡ true → ⊥
ff e = true≢false (sym e)

-- what holds of each of two values holds of the one that a test picks
pub by_test : (P : Float → Type 0) (b : Bool) {x y : Float} → (b ≡ true → P x) → (b ≡ false → P y) → P (cond b x y)
by_test P true f g = f refl
by_test P false f g = g refl

-- ---- NaN
-- only a NaN differs from itself
pub differs : (x : Float) → ne x x ≡ is_nan x
unfolding ne eq is_nan
differs nan = refl
differs (inf true) = refl
differs (inf false) = refl
differs (fin true m e) = rw (eq-eqb (m * up e * down e) (m * up e * down e) refl) refl
differs (fin false m e) = rw (eq-eqb (m * up e * down e) (m * up e * down e) refl) refl

pub is_nan_lem : (x : Float) → is_nan x ≡ true → nan ≡ x
unfolding is_nan
is_nan_lem nan e = refl
is_nan_lem (inf s) e = absurd (ff e)
is_nan_lem (fin s m d) e = absurd (ff e)

-- a sum with a NaN is one
pub nan_plus : (y : Float) → nan ⊕ y ≡ nan
unfolding add
nan_plus y = refl

pub plus_nan : (x : Float) → x ⊕ nan ≡ nan
unfolding add
plus_nan nan = refl
plus_nan (inf s) = refl
plus_nan (fin s m e) = refl

pub times_nan : (x : Float) → x ⊗ nan ≡ nan
unfolding mul
times_nan nan = refl
times_nan (inf s) = refl
times_nan (fin s m e) = refl

-- ---- order: of two numbers that are no NaN, one is at most the other
low_or : (a b : ℕ) (l : Bool) → a ≤ b → (a ≡ b → l ≡ true) → ltb a b || l ≡ true
low_or a b l h f =
    ⊎_elim (λ (e : a ≡ b). rw (f e) (or_true (ltb a b))) (λ (k : a < b). rw (lt-ltb a b k) refl) (eq-or-lt_of_le h)
  where
    or_true : (t : Bool) → t || true ≡ true
    or_true true = refl
    or_true false = refl

same_level : (s : Bool) (a b : ℕ) → a ≡ b → level s a s b ≡ true
same_level true a b e = rw (eq-eqb a b e) refl
same_level false a b e = rw (eq-eqb a b e) refl

-- zeros of either sign are level
zero_level : (s t : Bool) (a b : ℕ) → a ≡ 0 → b ≡ 0 → level s a t b ≡ true
zero_level true true a b p q = rw (p, q) refl
zero_level true false a b p q = rw (p, q) refl
zero_level false true a b p q = rw (p, q) refl
zero_level false false a b p q = rw (p, q) refl

turned : (s : Bool) (a : ℕ) (t : Bool) (b : ℕ) → below s a t b ≡ false → below t b s a || level t b s a ≡ true
turned false a false b h = low_or b a (level false b false a) (ltb-false a b h) (λ e. same_level false b a e)
turned false a true b h = low_or 0 (b + a) (level true b false a) (omega arith) (λ e. zero_level true false b a (omega arith) (omega arith))
turned true a false b h = let z : a + b ≤ 0 = ltb-false 0 (a + b) h in zero_level false true b a (omega arith) (omega arith)
turned true a true b h = low_or a b (level true b true a) (ltb-false b a h) (λ e. same_level true b a (sym e))

-- where x is not below y, y is at most x
pub at_most : (x y : Float) → is_nan x ≡ false → is_nan y ≡ false → lt x y ≡ false → le y x ≡ true
unfolding lt eq le is_nan
at_most nan y p q h = absurd (ff (sym p))
at_most (inf s) nan p q h = absurd (ff (sym q))
at_most (fin s m e) nan p q h = absurd (ff (sym q))
at_most (inf true) (inf true) p q h = refl
at_most (inf true) (inf false) p q h = absurd (ff (sym h))
at_most (inf false) (inf true) p q h = refl
at_most (inf false) (inf false) p q h = refl
at_most (inf true) (fin t n d) p q h = absurd (ff (sym h))
at_most (inf false) (fin t n d) p q h = refl
at_most (fin s m e) (inf true) p q h = refl
at_most (fin s m e) (inf false) p q h = absurd (ff (sym h))
at_most (fin s m e) (fin t n d) p q h = turned s (m * up e * down d) t (n * up d * down e) h

-- what is below a number is not above it
pub not_both : (x y : Float) → lt x y ≡ true → lt y x ≡ false
unfolding lt
not_both nan y h = absurd (ff h)
not_both (inf s) nan h = absurd (ff h)
not_both (fin s m e) nan h = absurd (ff h)
not_both (inf true) (inf true) h = refl
not_both (inf true) (inf false) h = refl
not_both (inf false) (inf t) h = absurd (ff h)
not_both (inf true) (fin t n d) h = refl
not_both (inf false) (fin t n d) h = absurd (ff h)
not_both (fin s m e) (inf true) h = absurd (ff h)
not_both (fin s m e) (inf false) h = refl
not_both (fin s m e) (fin t n d) h = apart s (m * up e * down d) t (n * up d * down e) h
  where
    apart : (s : Bool) (a : ℕ) (t : Bool) (b : ℕ) → below s a t b ≡ true → below t b s a ≡ false
    apart false a false b h = le-ltb b a (omega (arith, ltb-true a b h))
    apart false a true b h = absurd (ff h)
    apart true a false b h = refl
    apart true a true b h = le-ltb a b (omega (arith, ltb-true b a h))

-- a number is at most itself
pub at_most_self : (x : Float) → is_nan x ≡ false → le x x ≡ true
unfolding le eq lt is_nan
at_most_self nan p = absurd (ff (sym p))
at_most_self (inf true) p = refl
at_most_self (inf false) p = refl
at_most_self (fin s m e) p = low_or' s (m * up e * down e)
  where
    low_or' : (s : Bool) (a : ℕ) → below s a s a || level s a s a ≡ true
    low_or' true a = low_or a a (level true a true a) (omega arith) (λ e. same_level true a a e)
    low_or' false a = low_or a a (level false a false a) (omega arith) (λ e. same_level false a a e)

-- ---- finite numbers lie strictly between the infinities
pub finite_between : (x m : Float) → m ≡ inf false → lt x m ≡ true → lt (neg m) x ≡ finite x
unfolding lt neg finite
finite_between nan m e h = absurd (ff h)
finite_between (inf true) m e h = rw e refl
finite_between (inf false) m e h = absurd (ff (rw e at h))
finite_between (fin s k d) m e h = rw e refl

pub finite_past : (x m : Float) → m ≡ inf false → lt x m ≡ false → false ≡ finite x
unfolding lt finite
finite_past nan m e h = refl
finite_past (inf s) m e h = refl
finite_past (fin s k d) m e h = absurd (ff (sym (rw e at h)))

-- a finite number is not infinite, and what is not finite is infinite or a NaN
pub finite_is_not : (x : Float) → finite x ≡ true → false ≡ infinite x
unfolding finite infinite
finite_is_not nan h = refl
finite_is_not (inf s) h = absurd (ff h)
finite_is_not (fin s m e) h = refl

pub infinite_or_nan : (x : Float) → finite x ≡ false → not (is_nan x) ≡ infinite x
unfolding finite infinite is_nan
infinite_or_nan nan h = refl
infinite_or_nan (inf s) h = refl
infinite_or_nan (fin s m e) h = absurd (ff (sym h))

-- ---- signs
pub abs_negative : (x : Float) → negative x ≡ true → neg x ≡ abs_f x
unfolding negative neg abs_f
abs_negative nan h = refl
abs_negative (inf true) h = refl
abs_negative (inf false) h = absurd (ff h)
abs_negative (fin true m e) h = refl
abs_negative (fin false m e) h = absurd (ff h)

pub abs_positive : (x : Float) → negative x ≡ false → x ≡ abs_f x
unfolding negative abs_f
abs_positive nan h = refl
abs_positive (inf true) h = absurd (ff (sym h))
abs_positive (inf false) h = refl
abs_positive (fin true m e) h = absurd (ff (sym h))
abs_positive (fin false m e) h = refl

odd_sign : (d : ℕ) (s : Bool) (q k l : ℕ) → negative (odd d s q k l) ≡ s
unfolding odd negative
odd_sign d s zero k l = refl
odd_sign d s (suc q) k l = refl

picked_sign : (b c s : Bool) (o : Float) → negative o ≡ s → is_nan (cond b (cond c (inf s) nan) o) ≡ false → s ≡ negative (cond b (cond c (inf s) nan) o)
unfolding negative is_nan
picked_sign true true s o e h = refl
picked_sign true false s o e h = absurd (ff (sym h))
picked_sign false c s o e h = sym e

-- the sign that a pattern's fields say is the number's, but for a NaN
fields_sign : (s : Bool) (x t : ℕ) → is_nan (of_fields binary64 s x t) ≡ false → s ≡ negative (of_fields binary64 s x t)
unfolding of_fields
fields_sign s zero t h = sym (odd_sign 53 s t 0 1074)
fields_sign s (suc x) t h = picked_sign (eqb (suc x) 2047) (eqb t 0) s (odd 53 s (4503599627370496 + t) x 1074) (odd_sign 53 s (4503599627370496 + t) x 1074) h

bits_sign : (b : ℕ) → is_nan (bits b) ≡ false → leb (top binary64) b ≡ negative (bits b)
unfolding of_bits
bits_sign b h = fields_sign (leb (top binary64) b) (b % top binary64 / hid binary64) (b % hid binary64) h

-- the highest bit of a pattern is the sign
pub sign_bit : (x : Float) → T (fits binary64 x) → leb 0x8000_0000_0000_0000 (to_bits binary64 x) ≡ negative x
unfolding to_bits negative is_nan
sign_bit nan f = refl
sign_bit (inf true) f = refl
sign_bit (inf false) f = refl
sign_bit (fin s m e) f =
    let back : bits (to_bits binary64 (fin s m e)) ≡ fin s m e = of_bits-to_bits binary64 (fin s m e) f in
    bits_sign (to_bits binary64 (fin s m e)) (rw back refl) ∙ ap negative back

-- ---- patterns of NaNs
pub nan_pattern : (n : ℕ) → 0x7ff0_0000_0000_0000 < n % 0x8000_0000_0000_0000 → nan ≡ bits n
nan_pattern n l = is_nan_lem (bits n) (sym (nan_bits_is binary64 n) ∙ nan_bits_above binary64 n ∙ lt-ltb _ _ l)

pub no_nan_pattern : (n : ℕ) → n % 0x8000_0000_0000_0000 ≤ 0x7ff0_0000_0000_0000 → nan_bits binary64 n ≡ false
no_nan_pattern n l = nan_bits_above binary64 n ∙ le-ltb _ _ l

-- 0 / 0 is the NaN
pub no_quotient : div binary64 zero_f zero_f ≡ nan
unfolding div of_bits
no_quotient = refl
