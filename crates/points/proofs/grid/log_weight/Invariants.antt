-- `points::log_weight` meets its contract: before turn j the first j digits are taken off and the sum is that of the first j logarithms.
use mathlib.Core.Path.{◌≡◌}
use Prim.Native.Nat.{◌/◌, ◌^◌}
use Rattle.base.specs.Sum.{sum_to}
use Rattle.agq_rule.specs.Point.{digit_entry}
use Rattle.points.proofs.grid.log_weight.Given as goal

abbrev pub invariant-loop-j : goal.invariant-loop-j
invariant-loop-j l = (l.rest ≡ l.point / l.size ^ l.j) × (l.sum ≡ sum_to l.j (digit_entry l.logs l.size l.point))
