-- `columns::normal_row` meets its contract: before turn b the first b entries of the row are written, and the columns V are as they were lent.
use mathlib.Core.Path.{◌≡◌}
use Prim.Native.Nat.{◌*◌}
use lib.ListN.{length}
use Rattle.base.specs.List.{fill_at}
use Rattle.base.specs.Rows.{row}
use Rattle.columns.specs.Pieces.{less_mixed}
use Rattle.columns.proofs.remainders.normal_row.Given as goal

abbrev pub invariant-loop-b : goal.invariant-loop-b
invariant-loop-b l = (length l.t ≡ length l.initial.t) × (l.t ≡ fill_at l.na l.b (less_mixed l.c (row l.unsolved (l.p * l.q) l.initial.t) l.solved l.p l.q l.a) l.initial.t)
