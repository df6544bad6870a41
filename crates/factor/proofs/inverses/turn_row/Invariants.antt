-- `factor::turn_row` meets its contract: before turn j the first j entries have changed places.
use mathlib.Core.Path.{◌≡◌}
use lib.ListN.{length}
use Rattle.factor.specs.Transpose.{row_turned}
use Rattle.factor.proofs.inverses.turn_row.Given as goal

abbrev pub invariant-loop-j : goal.invariant-loop-j
invariant-loop-j l = (length l.x ≡ length l.initial.x) × (l.x ≡ row_turned l.s l.i l.j l.initial.x)
