-- `family_lists::weight_sum` meets its contract: before turn i the sum is that of the first i weights.
use Rattle.std.proofs.Common.{◌≡◌}
use Rattle.base.specs.Sum.{sum_to}
use Rattle.family_lists.specs.Lists.{weight_at}
use Rattle.family_lists.proofs.lists.weight_sum.Given as goal

abbrev pub invariant-loop-i : goal.invariant-loop-i
invariant-loop-i l = l.sum ≡ sum_to l.i (weight_at l.wt)
