-- `columns::add_weighted` meets its contract: before turn k the first k sums have what they get, and the others are as they were lent.
use mathlib.Core.Path.{◌≡◌}
use Rattle.base.specs.List.{fill_to}
use Rattle.columns.specs.Weighted.{weighted_more}
use Rattle.columns.proofs.weighted.add_weighted.Given as goal

abbrev pub invariant-loop-k : goal.invariant-loop-k
invariant-loop-k l = l.sums ≡ fill_to l.k (weighted_more l.w l.v l.x l.o l.initial.sums) l.initial.sums
