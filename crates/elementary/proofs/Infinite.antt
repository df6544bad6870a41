-- -infinity. Assumes nothing.
use mathlib.Core.Path.{◌≡◌, refl}
use mathlib.Core.Bool.{true, false}
use lib.Ieee.{inf, neg}

pub minus_infinity : neg (inf false) ≡ inf true
unfolding neg
minus_infinity = refl
