-- `tries::pwrss` meets its contract: before turn i the sum is u·u with the first i squares added.
use Rattle.rule.specs.Try.{square_at}
use Rattle.tries.proofs.Turns.{add_none, add_step}
use Rattle.tries.proofs.passes.pwrss.Goals as goal

pub loop-i-init : goal.loop-i-init
loop-i-init c = rw c.dot-sum.ensures (add_none _ _)

pub loop-i-preserved : goal.loop-i-preserved
unfolding square_at
loop-i-preserved c = add_step _ (square_at c.args.w.now c.args.z.now c.args.c.now) _ _ c.loop-i.invariant
