-- `linear::cross_rows` meets its contract: before turn a the rows before row a have their entries up to the diagonal.
use mathlib.Core.Path.{refl}
use Rattle.linear.specs.Product.{cross_at}
use Rattle.linear.proofs.CrossSums.{rows_more}
use native.Mathlib.Omega.{arith}
use Rattle.linear.proofs.crosses.cross_rows.Goals as goal

pub loop-a-preserved : goal.loop-a-preserved
loop-a-preserved c =
    let loop = c.loop-a in
    let row = c.cross_row in
    let offset = c.offset-o in
    let entry = cross_at c.args.x.now c.args.p c.args.n c.args.w.now in
    let less = c.loop-a-test.true in
    rows_more c.args.p entry loop.a offset.result _ loop.out row.new.out less offset.ensures.0 refl (omega arith) row.ensures loop.invariant
