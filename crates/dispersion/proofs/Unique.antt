-- One answer: each contract of this crate is an equation with its definition. Assumes nothing.
use Rattle.std.specs.Prelude.{Option}
use mathlib.Core.Path.{◌≡◌}
use mathlib.Core.List.{List}
use Prim.Native.Nat.{ℕ}
use lib.Ieee.{Float}
use Rattle.base.proofs.Unique.{one_value}
use Rattle.dispersion.specs.Phi.{effective_n, round_of}

-- `effective_n`
pub effective_n_unique : (weights : List Float) (n : ℕ) (r s : Float) → r ≡ effective_n n weights → s ≡ effective_n n weights → r ≡ s
effective_n_unique weights n r s d e = one_value d e

-- `round_of`
pub round_of_unique : (effective phi sum : Float) (r s : Option Float) → r ≡ round_of effective phi sum → s ≡ round_of effective phi sum → r ≡ s
round_of_unique effective phi sum r s d e = one_value d e
