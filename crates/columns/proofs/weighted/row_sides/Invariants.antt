-- `columns::row_sides` meets its contract: before each turn the entries before column b are written; a turn writes some more, and perhaps some of them again.
use mathlib.Core.Path.{◌≡◌}
use Prim.Native.Nat.{◌≤◌, ◌-◌}
use lib.ListN.{length}
use Rattle.base.specs.List.{fill_to}
use Rattle.columns.specs.Weighted.{entries_side}
use Rattle.columns.proofs.weighted.row_sides.Given as goal

abbrev pub invariant-loop-b : goal.invariant-loop-b
invariant-loop-b l = (l.b ≤ l.p) × (length l.out ≡ length l.initial.out) × (l.out ≡ fill_to l.b (entries_side l.zt.columns.now l.zt.values.now l.x l.p l.w l.begin l.end) l.initial.out)

abbrev pub decreases-loop-b : goal.decreases-loop-b
decreases-loop-b l = l.p - l.b
