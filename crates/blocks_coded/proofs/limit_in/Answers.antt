-- `blocks_coded::limit_in` meets its contract: its test is the definition's. Assumes nothing.
use borrow.Author.Tests.{eq-eqb, ne_eqb}
use Rattle.job.specs.Job.{limit_from}
use Rattle.blocks_coded.proofs.limit_in.Goals as goal

pub returns-then-code-eq1023 : goal.returns-then-code-eq1023
unfolding limit_from
returns-then-code-eq1023 c = rw (eq-eqb _ 1023 c.if-code-eq1023.true)

pub returns : goal.returns
unfolding limit_from
returns c = rw (ne_eqb _ 1023 c.if-code-eq1023.false)
