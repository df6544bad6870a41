-- The square root of a double: the nearest one, found by comparing squares of whole numbers. Document 01, module 1.
-- That no double is as near to the root, so that there is no tie to break, is `sqrt_nearest` of proofs/Correct. Assumes nothing.
use Rattle.std.specs.Prelude.{ℕ, zero, suc, ◌+◌, ◌-◌, ◌*◌, ◌/◌, ◌^◌, Bool, true, false, nat_lt, Float}
use Rattle.std.specs.Float.{nan, inf, fin}
use Rattle.std.specs.Float.Ieee.{up, down, size}
use Rattle.base.specs.Number.{bits}

-- q - 1/2 lies below the root of y: doubled and squared, it is below 4 y
abbrev pub half_below : ℕ → ℕ → Bool
half_below q y = nat_lt ((2 * q - 1) * (2 * q - 1)) (4 * y)

-- q with the binary digit b, where the test holds
unfoldable pub with_digit : Bool → ℕ → ℕ → ℕ
with_digit true q b = q + b
with_digit false q b = q

-- the greatest q with q - 1/2 below the root of y, its last d binary digits still to be found: the whole number nearest to the root
unfoldable pub nearest_from : ℕ → ℕ → ℕ → ℕ
nearest_from zero q y = q
nearest_from (suc d) q y = nearest_from d (with_digit (half_below (q + 2 ^ d) y) q (2 ^ d)) y

-- the last of the 53 places of the root of Y is 2 ^ k: the root has as many binary digits as Y has pairs of them
unfoldable pub place_of : ℕ → ℕ
place_of Y = (size Y + 1) / 2 - 53

-- the double nearest to the root of Y, counted in units of 2 ^ -1074, the smallest double: a whole number q of places, and its bits
unfoldable pub root_of : ℕ → Float
root_of Y = bits (place_of Y * 2 ^ 52 + nearest_from 53 0 (Y / 4 ^ place_of Y))

-- how many units of 2 ^ -1074 a finite number has, its sign aside
unfoldable pub units_of : Float → ℕ
units_of nan = 0
units_of (inf s) = 0
units_of (fin s m e) = m * up e * 2 ^ 1074 / down e

-- the square root: that of n units is the root of n 2 ^ 1074, in units
unfoldable pub sqrt_of : Float → Float
sqrt_of nan = nan
sqrt_of (inf true) = nan
sqrt_of (inf false) = inf false
sqrt_of (fin s zero e) = fin s zero e
sqrt_of (fin true (suc m) e) = nan
sqrt_of (fin false (suc m) e) = root_of (units_of (fin false (suc m) e) * 2 ^ 1074)
