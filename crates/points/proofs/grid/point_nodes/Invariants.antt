-- `points::point_nodes` meets its contract: before turn j the first j digits are taken off and the first j places written.
use mathlib.Core.Path.{◌≡◌}
use Prim.Native.Nat.{◌/◌, ◌^◌}
use lib.ListN.{length}
use Rattle.base.specs.List.{fill_at}
use Rattle.agq_rule.specs.Point.{digit_entry}
use Rattle.points.proofs.grid.point_nodes.Given as goal

abbrev pub invariant-loop-j : goal.invariant-loop-j
invariant-loop-j l = (length l.m ≡ length l.initial.m) × (l.rest ≡ l.point / l.size ^ l.j) × (l.m ≡ fill_at l.z l.j (digit_entry l.nodes l.size l.point) l.initial.m)
