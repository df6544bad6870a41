-- `base::column_fits` meets its contract: the tests are those of the definition, from left to right.
use borrow.Author.Tests.{lt-ltb, le-ltb, eq-eqb, ne_eqb}
use Rattle.base.specs.Sparse.{column_fits}
use Rattle.base.proofs.sparse.column_fits.Goals as goal

pub returns-then-t-eq0 : goal.returns-then-t-eq0
unfolding column_fits
returns-then-t-eq0 c = rw (lt-ltb _ _ c.if-columns-k.true, eq-eqb _ 0 c.if-t-eq0.true)

pub returns-else-t-eq0 : goal.returns-else-t-eq0
unfolding column_fits
returns-else-t-eq0 c = rw (lt-ltb _ _ c.if-columns-k.true, ne_eqb _ 0 c.if-t-eq0.false)

pub returns-else-columns-k : goal.returns-else-columns-k
unfolding column_fits
returns-else-columns-k c = rw (le-ltb _ _ c.if-columns-k.false)
