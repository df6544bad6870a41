-- `linear::cross_row` meets its contract: before each turn the entries before column b are written, and each turn writes some more.
use mathlib.Core.Path.{◌≡◌}
use Prim.Native.Nat.{ℕ, ◌≤◌, ◌<◌, ◌-◌}
use lib.ListN.{length}
use Rattle.base.specs.Sum.{◌!◌}
use Rattle.linear.specs.Product.{cross_at}
use Rattle.linear.proofs.crosses.cross_row.Given as goal

abbrev pub invariant-loop-b : goal.invariant-loop-b
invariant-loop-b l = (l.b ≤ l.p) × (length l.out ≡ length l.initial.out) × ((k : ℕ) → k < l.b → l.out ! k ≡ cross_at l.x l.p l.n l.w l.a k)

abbrev pub decreases-loop-b : goal.decreases-loop-b
decreases-loop-b l = l.p - l.b
