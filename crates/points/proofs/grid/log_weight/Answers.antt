-- `points::log_weight` meets its contract: before turn j the first j digits are taken off and the sum is that of the first j logarithms.
use Rattle.base.proofs.Sums.{sum_none}
use Rattle.points.proofs.Digits.{rest_all, rest_step, log_step}
use Rattle.points.proofs.grid.log_weight.Goals as goal

pub loop-j-init : goal.loop-j-init
loop-j-init c = (rest_all _ _, sum_none _)

pub loop-j-preserved : goal.loop-j-preserved
loop-j-preserved c =
    let a = c.args in
    let l = c.loop-j in
    (rest_step a.size a.point l.j l.rest l.invariant.0, log_step a.logs.now a.size a.point l.j l.rest _ l.invariant.0 l.invariant.1)
