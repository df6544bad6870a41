-- `points::mark_one` meets its contract: before entry k the observations of the row's entries before it are marked.
use mathlib.Core.Path.{◌≡◌}
use Prim.Native.Nat.{◌≤◌}
use lib.ListN.{length}
use Rattle.base.specs.Sum.{◌!!◌}
use Rattle.base.specs.Rows.{Only}
use Rattle.base.specs.Sparse.{Rising}
use Rattle.points.proofs.Marks.{MarkedTo}
use Rattle.points.proofs.gains.mark_one.Given as goal

abbrev pub invariant-loop-k : goal.invariant-loop-k
invariant-loop-k l = (Rising l.zt.columns.now l.n (l.zt.starts.now !! l.a) l.end) × (l.zt.starts.now !! l.a ≤ l.k) × (l.k ≤ l.end) × (length l.r ≡ length l.initial.r) × (MarkedTo l.zt.columns.now (l.zt.starts.now !! l.a) l.k l.mark l.n l.initial.r l.r) × (Only l.mark l.n l.initial.r l.r)
