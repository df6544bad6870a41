-- `lambda::scale` meets its contract: before entry j the first j are multiplied, and the others still stand.
use Rattle.base.proofs.Fills.{fill_none}
use Rattle.lambda.proofs.Entries.{scaled_step}
use Rattle.lambda.proofs.products.scale.Goals as goal

pub loop-j-init : goal.loop-j-init
loop-j-init c = fill_none _ _

pub loop-j-preserved : goal.loop-j-preserved
loop-j-preserved c = scaled_step _ _ _ _ c.loop-j.invariant
