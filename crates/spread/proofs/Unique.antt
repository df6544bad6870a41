-- One answer: the contract of this crate is an equation with its definition. Assumes nothing.
use mathlib.Core.Path.{◌≡◌}
use mathlib.Core.List.{List}
use Prim.Native.Nat.{ℕ}
use lib.Ieee.{Float}
use Rattle.base.proofs.Unique.{one_value}
use Rattle.spread.specs.Spread.{spread_at}

-- `spread_at`
pub spread_at_unique : (k : ℕ) (L z : List Float) (i : ℕ) (r s : Float) → r ≡ spread_at k L z i → s ≡ spread_at k L z i → r ≡ s
spread_at_unique k L z i r s d e = one_value d e
