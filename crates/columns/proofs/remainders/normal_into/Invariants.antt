-- `columns::normal_into` meets its contract: before turn a the rows below a are written, and the columns V are as they were lent.
use Prim.Native.Nat.{◌*◌}
use Rattle.base.specs.Rows.{row}
use Rattle.columns.specs.Pieces.{less_mixed}
use Rattle.columns.proofs.Laws.{LowerTo}
use Rattle.columns.proofs.remainders.normal_into.Given as goal

abbrev pub invariant-loop-a : goal.invariant-loop-a
invariant-loop-a l = LowerTo l.a l.normal l.p (less_mixed (row l.crossed (l.p * l.p) l.m) (row l.unsolved (l.p * l.q) l.initial.t) (row l.solved (l.p * l.q) l.m) l.p l.q) l.initial.t l.t
