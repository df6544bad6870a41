-- `lambda::column_start` meets its contract: before column i the sum is that of the columns before it.
use native.Mathlib.Omega.{arith}
use Rattle.lambda.proofs.ColumnPlaces.{start_none, start_step}
use Rattle.lambda.proofs.column.column_start.Goals as goal

pub loop-i-init : goal.loop-i-init
loop-i-init c = ((omega arith, omega arith), (omega arith, omega arith), start_none _)

pub loop-i-preserved : goal.loop-i-preserved
loop-i-preserved c = ((omega arith, omega arith), (omega arith, omega arith), start_step _ _ _ c.loop-i.invariant.2)
