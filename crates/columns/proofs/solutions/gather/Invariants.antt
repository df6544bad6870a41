-- `columns::gather` meets its contract: before turn g the first g entries of the column are written.
use mathlib.Core.Path.{◌≡◌}
use Rattle.base.specs.List.{fill_to}
use Rattle.columns.specs.Pieces.{column_at}
use Rattle.columns.proofs.solutions.gather.Given as goal

abbrev pub invariant-loop-g : goal.invariant-loop-g
invariant-loop-g l = l.out ≡ fill_to l.g (column_at l.s l.p l.a) l.initial.out
