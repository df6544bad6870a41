-- `columns::observation_sums` meets its contract: before turn i each sum is that of the first i observations, and the products of a sum do not depend on the order of their factors.
use mathlib.Core.Path.{◌≡◌}
use lib.ListN.{length}
use Rattle.base.specs.List.{build}
use Rattle.columns.specs.Weighted.{starting_at}
use Rattle.columns.proofs.WeightedSums.{dot_to}
use Rattle.columns.proofs.weighted.observation_sums.Given as goal

abbrev pub invariant-loop-i : goal.invariant-loop-i
invariant-loop-i l = (length l.sums ≡ l.count) × (l.sums ≡ build (starting_at (dot_to l.x l.p l.w l.v l.i) l.b) l.count)
