-- What nearest means, over squares of whole numbers, and the ranges that the code goes through. Assumes nothing.
use Rattle.std.specs.Prelude.{◌≡◌, ℕ, ◌+◌, ◌-◌, ◌*◌, ◌/◌, ◌^◌, ◌<◌, ◌≤◌, true, false, T, Float}
use Rattle.std.specs.Float.{binary64}
use Rattle.std.specs.Float.Ieee.{fits}
use Rattle.base.specs.Number.{finite, negative}
use Rattle.root.specs.Sqrt.{units_of}

-- q is the whole number nearest to the root of y: q - 1/2 and q + 1/2, doubled and squared, lie on either side of 4 y
pub record Near (y q : ℕ) : Type 0 where
  pub above : (2 * q - 1) * (2 * q - 1) < 4 * y
  pub below : 4 * y < (2 * q + 1) * (2 * q + 1)

-- r lies nearer to the root of Y than p does: the root is on r's side of their middle, whose double is squared
pub record Nearer (Y r p : ℕ) : Type 0 where
  pub from_below : p < r → (p + r) * (p + r) < 4 * Y
  pub from_above : r < p → 4 * Y < (p + r) * (p + r)

-- r is the double nearest to the root of x: every other double at or above zero is less near, all counted in units of 2 ^ -1074
pub record NearestRoot (x r : Float) : Type 0 where
  pub number : finite r ≡ true
  pub sign : negative r ≡ false
  pub nearer : (z : Float) → T (fits binary64 z) → finite z ≡ true → negative z ≡ false → Nearer (units_of x * 2 ^ 1074) (units_of r) (units_of z)

-- q has 53 binary digits
pub record Digits53 (q : ℕ) : Type 0 where
  pub least : 0x10_0000_0000_0000 ≤ q
  pub most : q < 0x20_0000_0000_0000

-- q has 53 binary digits, and q + 1/2 is past the root of s 2 ^ 52
pub record Past (s q : ℕ) : Type 0 where
  pub digits : Digits53 q
  pub reached : s ≤ q * (q + 1) / 0x10_0000_0000_0000

-- q has 53 binary digits, and q + 1/2 is not past it
pub record Short (s q : ℕ) : Type 0 where
  pub digits : Digits53 q
  pub missed : q * (q + 1) / 0x10_0000_0000_0000 < s

-- b is the bit pattern of a number above zero and below +infinity
pub record AboveZero (b : ℕ) : Type 0 where
  pub some : 0 < b
  pub most : b < 0x7ff0_0000_0000_0000
