-- `columns::entry_sums` meets its contract: before entry k each sum is that of the row's entries before it; an entry's column is one of the n observations.
use mathlib.Core.Path.{◌≡◌}
use Prim.Native.Nat.{◌≤◌}
use lib.ListN.{length}
use Rattle.base.specs.List.{build}
use Rattle.base.specs.Sparse.{Rising}
use Rattle.columns.specs.Weighted.{entries_side, starting_at}
use Rattle.columns.proofs.weighted.entry_sums.Given as goal

abbrev pub invariant-loop-k : goal.invariant-loop-k
invariant-loop-k l = (l.begin ≤ l.k) × (l.k ≤ l.end) × (Rising l.zt.columns.now l.n l.begin l.end) × (length l.sums ≡ l.count) × (l.sums ≡ build (starting_at (entries_side l.zt.columns.now l.zt.values.now l.x l.p l.w l.begin l.k) l.b) l.count)
