-- `columns::unsolved_columns` meets its contract: before turn a the first a columns stand one behind the other.
use mathlib.Core.Path.{◌≡◌}
use Rattle.base.specs.List.{grid_to}
use Rattle.columns.specs.Pieces.{unsolved_at}
use Rattle.columns.proofs.solutions.unsolved_columns.Given as goal

abbrev pub invariant-loop-a : goal.invariant-loop-a
invariant-loop-a l = l.out ≡ grid_to l.a l.q (unsolved_at l.shape l.theta l.s l.p l.q) l.initial.out
