-- `stored::both_rows` meets its contract: the sum is over the columns that both rows store below a cut, which parts what the cursors have passed from the rest.
use mathlib.Core.Path.{◌≡◌}
use Prim.Native.Nat.{◌+◌, ◌-◌}
use lib.ListN.{length}
use Rattle.base.specs.Sum.{◌!!◌}
use Rattle.base.specs.Sparse.{Rising}
use Rattle.stored.specs.Stored.{weighted_term}
use Rattle.stored.specs.Lent.{sparse_in}
use Rattle.stored.proofs.Merge.{Merged}
use Rattle.stored.proofs.weighted.both_rows.Given as goal

abbrev pub invariant-loop-i : goal.invariant-loop-i
invariant-loop-i l = (Rising l.zt.columns.now l.n (l.zt.starts.now !! l.a) l.i_end) × (Rising l.zt.columns.now l.n (l.zt.starts.now !! l.b) l.j_end) × (length l.zt.columns.now ≡ length l.zt.values.now) × (Merged (sparse_in l.zt) l.n l.a l.b (weighted_term (sparse_in l.zt) l.w l.a l.b) l.i l.j l.sum)

abbrev pub decreases-loop-i : goal.decreases-loop-i
decreases-loop-i l = (l.i_end - l.i) + (l.j_end - l.j)
