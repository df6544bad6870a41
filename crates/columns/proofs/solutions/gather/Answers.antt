-- `columns::gather` meets its contract: before turn g the first g entries of the column are written.
use Rattle.base.proofs.Fills.{fill_none, fill_step}
use Rattle.columns.proofs.solutions.gather.Goals as goal

pub loop-g-init : goal.loop-g-init
loop-g-init c = fill_none _ _

pub loop-g-preserved : goal.loop-g-preserved
loop-g-preserved c =
    let loop = c.loop-g in
    rw c.offset-o.ensures.0 (fill_step _ _ _ _ loop.invariant)
