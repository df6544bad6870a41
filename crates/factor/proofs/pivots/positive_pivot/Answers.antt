-- `factor::positive_pivot` meets its contract: of a number above zero the test left is that it is finite.
use mathlib.Core.Path.{◌∙◌}
use Rattle.factor.proofs.PivotTests.{positive_above, positive_not}
use Rattle.factor.proofs.pivots.positive_pivot.Goals as goal

pub returns-then-d : goal.returns-then-d
returns-then-d c = c.is_finite.ensures ∙ positive_above _ c.if-d.true

pub returns-else-d : goal.returns-else-d
returns-else-d c = c.if-d.false ∙ positive_not _ c.if-d.false
