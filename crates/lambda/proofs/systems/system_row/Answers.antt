-- `lambda::system_row` meets its contract: what the column of Λ gives, of one number or of several, is the row of A.
use Prim.Native.Nat.{◌+◌, ◌≤◌}
use native.Mathlib.Omega.{arith}
use Rattle.model.specs.Shape.{effects_of, theta_length}
use Rattle.model.proofs.Shapes.{in_range_lem}
use Rattle.lambda.proofs.ColumnPlaces.{column_rows, column_theta}
use Rattle.lambda.proofs.Entries.{system_end, system_end_one}
use Rattle.lambda.proofs.systems.system_row.Goals as goal

pub offset_bounds-theta-first : goal.offset_bounds-theta-first
offset_bounds-theta-first c =
    let r = in_range_lem c.args.shape c.requires.shape_value.0 in
    let k = c.column_of-column in
    let theta : k.result.first + k.result.count ≤ theta_length c.args.shape = rw k.ensures (column_theta c.args.shape c.args.a r (omega arith)) in
    omega (arith, theta, c.if-column-eq1.true)

pub bounds-theta-first : goal.bounds-theta-first
bounds-theta-first c =
    let r = in_range_lem c.args.shape c.requires.shape_value.0 in
    let k = c.column_of-column in
    let theta : k.result.first + k.result.count ≤ theta_length c.args.shape = rw k.ensures (column_theta c.args.shape c.args.a r (omega arith)) in
    omega (arith, theta, c.if-column-eq1.true)

pub returns-then-column-eq1 : goal.returns-then-column-eq1
returns-then-column-eq1 c =
    let r = in_range_lem c.args.shape c.requires.shape_value.0 in
    system_end_one _ _ _ _ _ _ _ _ _ r c.column_of-column.ensures c.requires.shape_value.1 (omega arith) c.offset-o.ensures.0 c.if-column-eq1.true c.system_single.ensures

pub system_several-requires : goal.system_several-requires
system_several-requires c =
    let r = in_range_lem c.args.shape c.requires.shape_value.0 in
    let k = c.column_of-column in
    let theta : k.result.first + k.result.count ≤ theta_length c.args.shape = rw k.ensures (column_theta c.args.shape c.args.a r (omega arith)) in
    let rows : c.args.a + k.result.count ≤ effects_of c.args.shape = rw k.ensures (column_rows c.args.shape c.args.a r (omega arith)) in
    (omega (arith, theta), omega (arith, rows), omega arith, omega arith, omega (arith, c.offset-o.ensures))

pub returns : goal.returns
returns c =
    let r = in_range_lem c.args.shape c.requires.shape_value.0 in
    system_end _ _ _ _ _ _ _ _ _ r c.column_of-column.ensures c.requires.shape_value.1 (omega arith) c.offset-o.ensures.0 c.system_several.ensures
