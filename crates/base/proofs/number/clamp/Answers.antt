-- `base::clamp` meets its contract: the two tests are the definition's, in its order.
use Rattle.base.specs.Number.{clamp_f}
use Rattle.base.proofs.number.clamp.Goals as goal

pub returns-then-x-lo : goal.returns-then-x-lo
unfolding clamp_f
returns-then-x-lo c = rw c.if-x-lo.true

pub returns-then-hi-x : goal.returns-then-hi-x
unfolding clamp_f
returns-then-hi-x c = rw (c.if-x-lo.false, c.if-hi-x.true)

pub returns : goal.returns
unfolding clamp_f
returns c = rw (c.if-x-lo.false, c.if-hi-x.false)
