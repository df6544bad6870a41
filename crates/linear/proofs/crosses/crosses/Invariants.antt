-- `linear::crosses` meets its contract: before turn i each sum is that of the first i observations.
use mathlib.Core.Path.{◌≡◌}
use lib.ListN.{length}
use Rattle.base.specs.List.{build}
use Rattle.linear.proofs.CrossSums.{cross_to}
use Rattle.linear.proofs.crosses.crosses.Given as goal

abbrev pub invariant-loop-i : goal.invariant-loop-i
invariant-loop-i l = (length l.sums ≡ l.count) × (l.sums ≡ build (cross_to l.x l.p l.n l.w l.a l.b l.i) l.count)
