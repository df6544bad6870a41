-- `lambda::column_of` meets its contract: the blocks passed end at effect j or before it, so the block that does not is j's, and what is left of j counts from that block's begin.
use Rattle.lambda.proofs.ColumnPlaces.{Passed}
use Prim.Native.Nat.{◌-◌}
use Rattle.lambda.proofs.column.column_of.Given as goal

abbrev pub invariant-loop-effects : goal.invariant-loop-effects
invariant-loop-effects l = Passed l.shape l.j l.k l.effects l.left l.first l.i

abbrev pub decreases-loop-effects : goal.decreases-loop-effects
decreases-loop-effects l = l.shape.count - l.i
