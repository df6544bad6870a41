-- `base::dot` meets its contract: before turn i the sum is that of the first i products.
use mathlib.Core.Path.{◌≡◌}
use Rattle.base.specs.Sum.{sum_to, product_at}
use Rattle.base.proofs.vector.dot.Given as goal

abbrev pub invariant-loop-i : goal.invariant-loop-i
invariant-loop-i l = (l.sum ≡ sum_to l.i (product_at l.a l.b))
