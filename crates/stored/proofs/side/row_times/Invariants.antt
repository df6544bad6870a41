-- `stored::row_times` meets its contract: before entry k the sum is that of the row's entries before it, and a rising row's entries are what it stores.
use mathlib.Core.Path.{◌≡◌}
use Prim.Native.Nat.{◌≤◌}
use lib.ListN.{length}
use Rattle.base.specs.Sum.{◌!!◌, sum_from}
use Rattle.base.specs.Sparse.{Rising}
use Rattle.stored.specs.Lent.{sparse_in}
use Rattle.stored.proofs.StoredRows.{entry_term}
use Rattle.stored.proofs.side.row_times.Given as goal

abbrev pub invariant-loop-k : goal.invariant-loop-k
invariant-loop-k l = (l.zt.starts.now !! l.a ≤ l.k) × (l.k ≤ l.end) × (Rising l.zt.columns.now l.n (l.zt.starts.now !! l.a) l.end) × (length l.zt.columns.now ≡ length l.zt.values.now) × (l.sum ≡ sum_from (l.zt.starts.now !! l.a) l.k (entry_term (sparse_in l.zt) l.v))
