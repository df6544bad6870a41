-- `columns::add_weighted` meets its contract: before turn k the first k sums have what they get, and the others are as they were lent.
use Rattle.base.proofs.Fills.{fill_none}
use Rattle.columns.proofs.WeightedSums.{more_step}
use Rattle.columns.proofs.weighted.add_weighted.Goals as goal

pub loop-k-init : goal.loop-k-init
loop-k-init c = fill_none _ _

pub loop-k-preserved : goal.loop-k-preserved
loop-k-preserved c =
    let a = c.args in
    let loop = c.loop-k in
    more_step a.w a.v a.x.now a.o a.sums.now loop.k loop.sums loop.invariant
