-- `factor::usable_pivot` meets its contract: of a finite number the test left is that it is not zero.
use mathlib.Core.Path.{sym, ◌∙◌}
use Rattle.factor.proofs.PivotTests.{usable_finite, usable_not}
use Rattle.factor.proofs.pivots.usable_pivot.Goals as goal

pub returns-then-is_finite : goal.returns-then-is_finite
returns-then-is_finite c = usable_finite _ (sym c.is_finite.ensures ∙ c.if-is_finite.true)

pub returns-else-is_finite : goal.returns-else-is_finite
returns-else-is_finite c = c.if-is_finite.false ∙ usable_not _ (sym c.is_finite.ensures ∙ c.if-is_finite.false)
