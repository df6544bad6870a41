-- `points::deviance_gain` meets its contract: before turn i the sum is that of the marked observations below i.
use Rattle.base.specs.Rows.{row}
use Rattle.base.proofs.Sums.{where_none, where_step}
use Rattle.points.specs.Gain.{marked, entered}
use Rattle.points.proofs.gains.deviance_gain.Goals as goal

pub loop-i-init : goal.loop-i-init
loop-i-init c = where_none _ _

pub loop-i-preserved : goal.loop-i-preserved
loop-i-preserved c =
    let a = c.args in
    let l = c.loop-i in
    rw c.add_gain-sum.ensures (where_step (marked (row a.mark a.n a.r.now)) (entered a.family a.y.now a.weights.now (row a.means a.n a.r.now) (row a.devs a.n a.r.now)) l.i _ l.invariant)
