-- `linear::column_dot` meets its contract: before turn i the sum is that of the first i observations.
use Rattle.base.proofs.Sums.{sum_none, sum_step}
use Rattle.linear.proofs.product.column_dot.Goals as goal

pub loop-i-init : goal.loop-i-init
loop-i-init c = sum_none _

pub loop-i-preserved : goal.loop-i-preserved
loop-i-preserved c = rw c.offset-o.ensures.0 (sum_step _ _ _ c.loop-i.invariant)
