-- `base::is_infinite` meets its contract: what is neither finite nor NaN is infinite.
use mathlib.Core.Path.{sym, ◌∙◌}
use Rattle.base.proofs.Doubles.{finite_is_not, infinite_or_nan}
use Rattle.base.proofs.number.is_infinite.Goals as goal

pub returns-then-not-is_finite : goal.returns-then-not-is_finite
returns-then-not-is_finite c = rw c.is_nan.ensures (infinite_or_nan _ (sym c.is_finite.ensures ∙ c.if-not-is_finite.true))

pub returns-else-not-is_finite : goal.returns-else-not-is_finite
returns-else-not-is_finite c = rw c.if-not-is_finite.false (finite_is_not _ (sym c.is_finite.ensures ∙ c.if-not-is_finite.false))
