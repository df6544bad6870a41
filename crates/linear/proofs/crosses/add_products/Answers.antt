-- `linear::add_products` meets its contract: before turn k the first k sums have their products, and the others are as they were.
use Rattle.base.proofs.Fills.{fill_none}
use Rattle.linear.proofs.CrossSums.{added_step}
use Rattle.linear.proofs.crosses.add_products.Goals as goal

pub loop-k-init : goal.loop-k-init
loop-k-init c = fill_none _ _

pub loop-k-preserved : goal.loop-k-preserved
loop-k-preserved c =
    let loop = c.loop-k in
    added_step c.args.v c.args.x.now c.args.o loop.k c.args.sums.now loop.sums loop.invariant
