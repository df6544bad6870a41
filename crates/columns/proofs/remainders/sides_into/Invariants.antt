-- `columns::sides_into` meets its contract: before turn a the first a entries are less their products with wy; the others, wy and the columns V are as they were lent.
use mathlib.Core.Path.{◌≡◌}
use Prim.Native.Nat.{◌*◌}
use lib.ListN.{length}
use Rattle.base.specs.List.{fill_at}
use Rattle.base.specs.Rows.{row}
use Rattle.columns.specs.Pieces.{less_solved}
use Rattle.columns.proofs.remainders.sides_into.Given as goal

abbrev pub invariant-loop-a : goal.invariant-loop-a
invariant-loop-a l = (length l.m ≡ length l.initial.m) × (l.m ≡ fill_at l.beta l.a (less_solved (row l.beta l.p l.initial.m) (row l.unsolved (l.p * l.q) l.t) (row l.wy l.q l.initial.m) l.q) l.initial.m)
