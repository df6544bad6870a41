-- `factor::column_head` meets its contract: before turn k the entries from row i + 1 to row k - 1 are zeros, and one that is not settles it.
use mathlib.Core.Path.{◌≡◌}
use mathlib.Core.Bool.{true}
use Prim.Native.Nat.{◌+◌, ◌≤◌, ◌<◌, ◌-◌}
use Rattle.base.specs.List.{at}
use Rattle.factor.specs.Heads.{Zeros}
use Rattle.factor.proofs.sides.column_head.Given as goal

abbrev pub invariant-loop-k : goal.invariant-loop-k
invariant-loop-k l = (l.i < l.k) × (l.k ≤ l.s) × (l.allowed ≡ true) × Zeros (l.i + 1) l.k (λ j. at l.s l.l j l.i)

abbrev pub decreases-loop-k : goal.decreases-loop-k
decreases-loop-k l = l.s - l.k
