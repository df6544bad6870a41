-- `lambda::plus_unit` meets its contract: each branch is the definition's, by its test.
use mathlib.Core.Path.{refl}
use borrow.Author.Tests.{eq-eqb, ne_eqb}
use Rattle.base.specs.Sum.{add_where}
use Rattle.lambda.proofs.systems.plus_unit.Goals as goal

pub returns-then-a-c : goal.returns-then-a-c
unfolding add_where
returns-then-a-c c = rw (eq-eqb _ _ c.if-a-c.true) refl

pub returns-else-a-c : goal.returns-else-a-c
unfolding add_where
returns-else-a-c c = rw (ne_eqb _ _ c.if-a-c.false) refl
