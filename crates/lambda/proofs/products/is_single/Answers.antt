-- `lambda::is_single` meets its contract: its tests are the definition's.
use mathlib.Core.Path.{refl}
use borrow.Author.Tests.{eq-eqb, ne_eqb}
use Rattle.lambda.specs.Parts.{is_single}
use Rattle.lambda.proofs.products.is_single.Goals as goal

pub returns-then-shape-eq1 : goal.returns-then-shape-eq1
unfolding is_single
returns-then-shape-eq1 c = rw (eq-eqb _ _ c.if-shape-eq1.true) refl

pub returns-else-shape-eq1 : goal.returns-else-shape-eq1
unfolding is_single
returns-else-shape-eq1 c = rw (ne_eqb _ _ c.if-shape-eq1.false) refl
