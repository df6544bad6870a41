-- `model::first_theta` meets its contract: the sum so far is that of the blocks passed, and at every turn at most 288.
use mathlib.Core.Path.{◌≡◌}
use Prim.Native.Nat.{◌≤◌}
use Rattle.model.specs.Shape.{first_theta}
use Rattle.model.proofs.sizes.first_theta.Given as goal

abbrev pub invariant-loop-i : goal.invariant-loop-i
invariant-loop-i l = (l.block ≤ 8) × (l.t ≡ first_theta l.shape l.i)
