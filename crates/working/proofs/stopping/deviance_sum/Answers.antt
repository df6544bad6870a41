-- `working::deviance_sum` meets its contract: before turn i the sum is that of the first i deviances.
use Rattle.base.specs.List.{entry_of}
use Rattle.base.proofs.Sums.{sum_none, sum_step, sum_end}
use Rattle.rule.specs.Stop.{deviance_sum}
use native.Mathlib.Omega.{arith}
use Rattle.working.proofs.stopping.deviance_sum.Goals as goal

pub loop-i-init : goal.loop-i-init
loop-i-init c = sum_none _

pub loop-i-preserved : goal.loop-i-preserved
loop-i-preserved c = sum_step (entry_of c.args.devs.now) _ _ c.loop-i.invariant

pub returns : goal.returns
unfolding deviance_sum
returns c = sum_end _ _ _ _ c.loop-i.invariant (omega arith) (omega arith)
