-- `working::start_means` meets its contract: before turn i the first i places are written.
use Rattle.base.proofs.Fills.{fill_none, fill_step}
use Rattle.rule.specs.Run.{start_mean_at}
use Rattle.working.proofs.starting.start_means.Goals as goal

pub loop-i-init : goal.loop-i-init
loop-i-init c = fill_none _ _

pub loop-i-preserved : goal.loop-i-preserved
unfolding start_mean_at
loop-i-preserved c =
    let a = c.args in
    rw (c.start_mean.ensures, c.weight_at-wt.ensures) (fill_step (start_mean_at a.start a.family a.y.now a.weights.now) _ _ _ c.loop-i.invariant)
