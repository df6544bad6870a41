-- `family_lists::weight_sum` meets its contract: before turn i the sum is that of the first i weights.
use Rattle.std.proofs.Common.{arith}
use Rattle.base.proofs.Sums.{sum_none, sum_step, sum_end}
use Rattle.family_lists.specs.Lists.{weight_at, weight_sum}
use Rattle.family_lists.proofs.lists.weight_sum.Goals as goal

pub loop-i-init : goal.loop-i-init
loop-i-init c = sum_none _

pub loop-i-preserved : goal.loop-i-preserved
loop-i-preserved c = rw c.weight_at-sum.ensures (sum_step (weight_at c.args.wt.now) _ _ c.loop-i.invariant)

pub returns : goal.returns
unfolding weight_sum
returns c = sum_end _ _ _ _ c.loop-i.invariant (omega arith) (omega arith)
