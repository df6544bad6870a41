-- `many::fit_each` meets its contract: each turn is the call of one response more. Assumes nothing.
use Rattle.many.proofs.Placing.{next_one, none_yet}
use Rattle.many.proofs.responses.fit_each.Goals as goal

pub loop-i-init : goal.loop-i-init
loop-i-init c = none_yet _ _ _ _

pub loop-i-preserved : goal.loop-i-preserved
loop-i-preserved c = next_one _ _ _ _ _ _ _ c.loop-i.invariant c.fit_response.ensures
