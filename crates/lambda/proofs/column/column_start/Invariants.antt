-- `lambda::column_start` meets its contract: before column i the sum is that of the columns before it.
use mathlib.Core.Path.{◌≡◌}
use Prim.Native.Nat.{◌*◌, ◌≤◌}
use Rattle.lambda.specs.Column.{column_start}
use Rattle.lambda.proofs.column.column_start.Given as goal

abbrev pub invariant-loop-i : goal.invariant-loop-i
invariant-loop-i l = ((l.i ≤ l.c) × (l.c ≤ l.k)) × ((l.k ≤ 8) × (l.start ≤ 8 * l.i)) × (l.start ≡ column_start l.k l.i)
