-- `points::log_weights` meets its contract: before turn i the first i logarithms are written.
use mathlib.Core.Path.{◌≡◌}
use lib.ListN.{length}
use Rattle.base.specs.List.{fill_to}
use Rattle.points.specs.Grid.{log_at}
use Rattle.points.proofs.grid.log_weights.Given as goal

abbrev pub invariant-loop-i : goal.invariant-loop-i
invariant-loop-i l = (length l.logs ≡ length l.initial.logs) × (l.logs ≡ fill_to l.i (log_at l.weights) l.initial.logs)
