-- `lambda::columns_transposed` meets its contract: before column j the first j entries are done, and those that its sum needs still stand.
use Rattle.lambda.proofs.Entries.{transposed_dot}
use Prim.Native.Nat.{◌-◌}
use lib.ListN.{length, length-set}
use native.Mathlib.Omega.{arith}
use Rattle.base.proofs.Rows.{part_long}
use Rattle.base.proofs.Fills.{fill_step}
use Rattle.model.proofs.Shapes.{in_range_lem}
use Rattle.lambda.proofs.ColumnPlaces.{column_rows, column_theta}
use Rattle.base.proofs.Loops.{loops}
use borrow.Author.Rules.{rules}
use Rattle.lambda.proofs.products.columns_transposed.Goals as goal

pub loop-j-init : goal.loop-j-init
loop-j-init c = search (rules, loops)

pub dot_from-sum-requires : goal.dot_from-sum-requires
dot_from-sum-requires c =
    let l = c.loop-j in
    let r = in_range_lem c.args.shape c.requires.shape_value.0 in
    let rows = column_rows c.args.shape l.j r (omega arith) in
    let theta = column_theta c.args.shape l.j r (omega arith) in
    rw c.column_of-c.ensures (omega (arith, theta), part_long l.j _ l.v (omega (arith, rows)))

pub loop-j-preserved : goal.loop-j-preserved
loop-j-preserved c =
    let l = c.loop-j in
    let r = in_range_lem c.args.shape c.requires.shape_value.0 in
    let sum = rw c.column_of-c.ensures at c.dot_from-sum.ensures in
    let rows = column_rows c.args.shape l.j r (omega arith) in
    let z = transposed_dot c.args.shape c.args.theta.now c.args.v.now l.v l.j (length l.v - l.j) c.dot_from-sum.result r (omega arith) sum l.invariant.1 (omega (arith, rows)) in
    (simp length-set (omega arith), rw z (fill_step _ _ _ _ l.invariant.1))
