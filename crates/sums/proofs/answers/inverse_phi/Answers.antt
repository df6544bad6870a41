-- `sums::inverse_phi` meets its contract: it is the definition's quotient.
use mathlib.Core.Path.{refl}
use Rattle.agq_rule.specs.Term.{inverse_phi}
use Rattle.sums.proofs.answers.inverse_phi.Goals as goal

pub returns : goal.returns
unfolding inverse_phi
returns c = rw c.max.ensures refl
