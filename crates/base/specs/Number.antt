-- What one operation on doubles means here, the constants, and Rust's tests, `abs`, `max` and `clamp`. Document 01, its head. Assumes nothing.
use Rattle.std.specs.Prelude.{Bool, true, false, ◌||◌, cond, ℕ, pos, Float}
use Rattle.std.specs.Float.{nan, inf, fin, binary64}
use Rattle.std.specs.Float.Ieee.{of_bits, of_int, add, sub, mul, div, lt, is_nan}

infixl 65 ◌⊕◌
infixl 65 ◌⊖◌
infixl 70 ◌⊗◌
infixl 70 ◌⊘◌
-- x + y, rounded once
abbrev pub ◌⊕◌ : Float → Float → Float
x ⊕ y = add binary64 x y

-- x - y, rounded once
abbrev pub ◌⊖◌ : Float → Float → Float
x ⊖ y = sub binary64 x y

-- x · y, rounded once
abbrev pub ◌⊗◌ : Float → Float → Float
x ⊗ y = mul binary64 x y

-- x / y, rounded once
abbrev pub ◌⊘◌ : Float → Float → Float
x ⊘ y = div binary64 x y

-- the double with this bit pattern
abbrev pub bits : ℕ → Float
bits n = of_bits binary64 n

-- +0.0
abbrev pub zero_f : Float
zero_f = bits 0

-- 1.0
abbrev pub one_f : Float
one_f = bits 0x3ff0_0000_0000_0000

-- 0.5
abbrev pub half_f : Float
half_f = bits 0x3fe0_0000_0000_0000

-- 2.0
abbrev pub two_f : Float
two_f = bits 0x4000_0000_0000_0000

-- a whole number as a double, rounded once
abbrev pub number_of : ℕ → Float
number_of n = of_int binary64 (pos n)

-- E, 2 ^ -52
abbrev pub eps_f : Float
eps_f = bits 0x3cb0_0000_0000_0000

-- `f64::MAX`
abbrev pub huge_f : Float
huge_f = bits 0x7fef_ffff_ffff_ffff

-- neither NaN nor infinite: `is_finite`
unfoldable pub finite : Float → Bool
finite nan = false
finite (inf s) = false
finite (fin s m e) = true

-- `is_infinite`, of either sign
unfoldable pub infinite : Float → Bool
infinite nan = false
infinite (inf s) = true
infinite (fin s m e) = false

-- `is_sign_negative`, which -0.0 passes; of a NaN, whose sign is not kept, false
unfoldable pub negative : Float → Bool
negative nan = false
negative (inf s) = s
negative (fin s m e) = s

-- `abs`: the sign is taken off, also that of -0.0
unfoldable pub abs_f : Float → Float
abs_f nan = nan
abs_f (inf s) = inf false
abs_f (fin s m e) = fin false m e

-- Rust's `a.max(b)`: a where b is below it or NaN, else b; so of one NaN and a number the number, and of two zeros the second
unfoldable pub max_f : Float → Float → Float
max_f a b = cond (lt b a || is_nan b) a b

-- Rust's `x.clamp(lo, hi)`: NaN stays NaN
unfoldable pub clamp_f : Float → Float → Float → Float
clamp_f lo hi x = cond (lt x lo) lo (cond (lt hi x) hi x)
