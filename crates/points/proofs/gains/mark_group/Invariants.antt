-- `points::mark_group` meets its contract: before row i of the group the marks are those of its first i rows.
use mathlib.Core.Path.{◌≡◌}
use Prim.Native.Nat.{ℕ, ◌+◌, ◌<◌}
use lib.ListN.{length}
use Rattle.base.specs.Sum.{◌!◌}
use Rattle.base.specs.Rows.{Only}
use Rattle.stored.specs.Lent.{sparse_in}
use Rattle.points.specs.Gain.{mark_at}
use Rattle.points.proofs.gains.mark_group.Given as goal

abbrev pub invariant-loop-i : goal.invariant-loop-i
invariant-loop-i l = (length l.r ≡ length l.initial.r) × (Only l.mark l.n l.initial.r l.r) × ((o : ℕ) → o < l.n → l.r ! (l.mark + o) ≡ mark_at (sparse_in l.zt) l.s l.i o)
