-- `points::delta` meets its contract: its operations are the definition's, in the definition's order.
use mathlib.Core.Path.{refl}
use Rattle.agq_rule.specs.Term.{delta_of}
use Rattle.points.proofs.gains.delta.Goals as goal

pub returns : goal.returns
unfolding delta_of
returns c = refl
