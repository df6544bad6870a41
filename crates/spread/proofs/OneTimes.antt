-- One times a double is the double, and one and one are two. Assumes nothing.
use mathlib.Core.Path.{◌≡◌, refl}
use mathlib.Core.Bool.{Bool, true, false}
use Prim.Native.Nat.{◌*◌}
use native.Mathlib.Nat.{one-mul}
use lib.Dec.{T}
use lib.Ieee.{Float, nan, inf, fin, binary64, up, down, unlike, add, mul, fits, of_bits}
use Rattle.base.specs.Number.{◌⊕◌, ◌⊗◌, one_f, two_f}
use Rattle.spread.proofs.Same.{round_own}

like : (s : Bool) → unlike false s ≡ s
like true = refl
like false = refl

pub one_times : (x : Float) → T (fits binary64 x) → one_f ⊗ x ≡ x
unfolding mul of_bits
one_times nan p = refl
one_times (inf s) p = rw (like s) refl
one_times (fin s m e) p = rw (like s, one-mul (m * up e), one-mul (down e)) (round_own binary64 s m e p)

pub one_and_one : one_f ⊕ one_f ≡ two_f
unfolding add of_bits
one_and_one = refl
