-- `many::lengths_for` meets its contract: each product is that of the definition, and small. Assumes nothing.
use mathlib.Core.Path.{refl}
use Rattle.many.specs.Many.{lengths_for}
use Rattle.many.proofs.lent.lengths_for.Goals as goal

pub returns : goal.returns
unfolding lengths_for
returns c = rw (← c.beta_for-beta.ensures) refl
