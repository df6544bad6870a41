-- A product of doubles does not depend on the order of its two factors. Assumes nothing.
use mathlib.Core.Path.{◌≡◌, refl}
use mathlib.Core.Bool.{Bool, true, false}
use Prim.Native.Nat.{◌*◌}
use native.Mathlib.Nat.{mul_comm}
use lib.Ieee.{Float, nan, inf, fin, unlike, up, down, mul}
use Rattle.base.specs.Number.{◌⊗◌}

signs_commute : (s t : Bool) → unlike s t ≡ unlike t s
signs_commute true true = refl
signs_commute true false = refl
signs_commute false true = refl
signs_commute false false = refl

pub times_commutes : (x y : Float) → x ⊗ y ≡ y ⊗ x
unfolding mul
times_commutes nan nan = refl
times_commutes nan (inf t) = refl
times_commutes nan (fin t n d) = refl
times_commutes (inf s) nan = refl
times_commutes (inf s) (inf t) = rw (signs_commute s t) refl
times_commutes (inf s) (fin t n d) = rw (signs_commute s t) refl
times_commutes (fin s m e) nan = refl
times_commutes (fin s m e) (inf t) = rw (signs_commute s t) refl
times_commutes (fin s m e) (fin t n d) = rw (signs_commute s t, mul_comm (m * up e) (n * up d), mul_comm (down e) (down d)) refl
