-- `base::dot_from` meets its contract: before turn i the sum is that of the first i products.
use mathlib.Core.Path.{◌≡◌}
use Rattle.base.specs.Sum.{sum_to, product_from}
use Rattle.base.proofs.vector.dot_from.Given as goal

abbrev pub invariant-loop-i : goal.invariant-loop-i
invariant-loop-i l = (l.sum ≡ sum_to l.i (product_from l.a l.o l.b))
