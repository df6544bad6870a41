-- `table::absent_or` meets its contract: by the first of its two tests.
use mathlib.Core.Path.{refl}
use borrow.Author.Tests.{eq-eqb, ne_eqb}
use Rattle.table.specs.Tests.{absent_or}
use Rattle.table.proofs.lengths.absent_or.Goals as goal

pub returns-then-length-eq0 : goal.returns-then-length-eq0
unfolding absent_or
returns-then-length-eq0 c = rw (eq-eqb c.args.length 0 c.if-length-eq0.true) refl

pub returns : goal.returns
unfolding absent_or
returns c = rw (ne_eqb c.args.length 0 c.if-length-eq0.false) refl
