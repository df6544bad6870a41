-- `linear::add_products` meets its contract: before turn k the first k sums have their products, and the others are as they were.
use mathlib.Core.Path.{◌≡◌}
use Rattle.base.specs.List.{fill_to}
use Rattle.linear.specs.SideBySide.{added_at}
use Rattle.linear.proofs.crosses.add_products.Given as goal

abbrev pub invariant-loop-k : goal.invariant-loop-k
invariant-loop-k l = l.sums ≡ fill_to l.k (added_at l.v l.x l.o l.initial.sums) l.initial.sums
