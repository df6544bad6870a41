-- `family_lists::log_weights` meets its contract: before each weight the sum is that of those before it.
use Rattle.std.proofs.Common.{arith}
use Rattle.base.proofs.Sums.{where_none, where_step, where_end}
use Rattle.family_lists.specs.Aic.{above_zero_at, ln_at, log_weights}
use Rattle.family_lists.proofs.aics.log_weights.Goals as goal

pub loop-w-init : goal.loop-w-init
loop-w-init c = where_none _ _

pub loop-w-preserved : goal.loop-w-preserved
loop-w-preserved c = rw c.add_log-sum.ensures (where_step (above_zero_at c.args.wt.now) (ln_at c.args.wt.now) _ _ c.loop-w.invariant)

pub returns : goal.returns
unfolding log_weights
returns c = where_end _ _ _ _ _ c.loop-w.invariant (omega arith) (omega arith)
