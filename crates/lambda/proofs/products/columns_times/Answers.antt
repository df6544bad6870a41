-- `lambda::columns_times` meets its contract: before column j each place holds what the first j columns make of it.
use mathlib.Core.Path.{◌∙◌}
use native.Mathlib.Omega.{arith}
use Rattle.model.proofs.Shapes.{in_range_lem}
use Rattle.lambda.proofs.ColumnPlaces.{column_rows, column_theta}
use Rattle.lambda.proofs.Entries.{times_none, times_step, times_all}
use Rattle.lambda.proofs.products.columns_times.Goals as goal

pub loop-j-init : goal.loop-j-init
loop-j-init c = times_none _ _ _ _ c.args.out.now _ (omega arith) c.wipe.ensures

pub add_column-requires : goal.add_column-requires
add_column-requires c =
    let l = c.loop-j in
    let r = in_range_lem c.args.shape c.requires.shape_value.0 in
    let theta = column_theta c.args.shape l.j r (omega arith) in
    let rows = column_rows c.args.shape l.j r (omega arith) in
    rw c.column_of-c.ensures (omega (arith, theta), omega (arith, rows, l.invariant))

pub loop-j-preserved : goal.loop-j-preserved
loop-j-preserved c =
    let l = c.loop-j in
    let r = in_range_lem c.args.shape c.requires.shape_value.0 in
    let made = rw c.column_of-c.ensures at c.add_column.ensures in
    made ∙ times_step c.args.shape c.args.theta.now c.args.u.now c.args.q l.j _ l.out r (omega arith) (omega arith) (omega (arith, l.invariant)) l.invariant

pub returns : goal.returns
returns c = times_all _ _ _ _ _ c.args.out.now _ _ c.requires.shape_value.1 (omega arith) (omega arith) c.wipe.ensures c.loop-j.invariant
