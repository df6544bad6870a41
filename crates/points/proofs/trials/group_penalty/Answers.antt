-- `points::group_penalty` meets its contract: before turn i the sum is that of the first i effects.
use Rattle.base.proofs.Sums.{sum_none, sum_step}
use Rattle.agq_rule.specs.Term.{penalty_at}
use Rattle.points.proofs.trials.group_penalty.Goals as goal

pub loop-i-init : goal.loop-i-init
loop-i-init c = sum_none _

pub loop-i-preserved : goal.loop-i-preserved
unfolding penalty_at
loop-i-preserved c =
    let a = c.args in
    let l = c.loop-i in
    sum_step (penalty_at a.t.now a.u.now) l.i _ l.invariant
