-- `working::log_pivots` meets its contract: before turn i the sum is that of the first i logarithms.
use Rattle.base.proofs.Sums.{sum_none, sum_step, sum_end}
use Rattle.rule.specs.Stop.{log_pivot_at, log_pivots}
use native.Mathlib.Omega.{arith}
use Rattle.working.proofs.stopping.log_pivots.Goals as goal

pub loop-i-init : goal.loop-i-init
loop-i-init c = sum_none _

pub loop-i-preserved : goal.loop-i-preserved
unfolding log_pivot_at
loop-i-preserved c =
    let a = c.args in
    rw (c.ln-sum.ensures, c.abs.ensures, c.offset-o.ensures.0) (sum_step (log_pivot_at a.q a.factor.now) _ _ c.loop-i.invariant)

pub returns : goal.returns
unfolding log_pivots
returns c = sum_end _ _ _ _ c.loop-i.invariant (omega arith) (omega arith)
