-- `model::first_effect` meets its contract: the sum so far is that of the blocks passed, and at every turn at most 32.
use Prim.Native.Nat.{◌≤◌}
use mathlib.Core.Path.{◌≡◌}
use Rattle.model.specs.Shape.{first_effect}
use Rattle.model.proofs.sizes.first_effect.Given as goal

abbrev pub invariant-loop-i : goal.invariant-loop-i
invariant-loop-i l = (l.block ≤ 8) × (l.q ≡ first_effect l.shape l.i)
