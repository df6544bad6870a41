-- `stored::add_row` meets its contract: the places below a cut, which parts what the cursor has passed from the rest, have what the row adds to them.
use mathlib.Core.Path.{◌≡◌}
use lib.ListN.{length}
use Rattle.base.specs.Sum.{◌!!◌}
use Rattle.base.specs.Sparse.{Rising}
use Rattle.stored.specs.Lent.{sparse_in}
use Rattle.stored.proofs.Added.{RowAdded}
use Rattle.stored.proofs.effects.add_row.Given as goal

abbrev pub invariant-loop-k : goal.invariant-loop-k
invariant-loop-k l = (Rising l.zt.columns.now l.n (l.zt.starts.now !! l.a) l.end) × (length l.zt.columns.now ≡ length l.zt.values.now) × (RowAdded (sparse_in l.zt) l.b l.n l.a l.initial.out l.k l.out)
