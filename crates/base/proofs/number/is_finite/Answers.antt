-- `base::is_finite` meets its contract: just the finite numbers lie strictly between the infinities.
use mathlib.Core.Path.{◌∙◌}
use Rattle.base.proofs.Doubles.{finite_between, finite_past}
use Rattle.base.proofs.number.is_finite.Goals as goal

pub returns-then-x-m : goal.returns-then-x-m
returns-then-x-m c = finite_between _ _ c.infinity-m.ensures c.if-x-m.true

pub returns-else-x-m : goal.returns-else-x-m
returns-else-x-m c = c.if-x-m.false ∙ finite_past _ _ c.infinity-m.ensures c.if-x-m.false
