-- `linear::column_dot` meets its contract: before turn i the sum is that of the first i observations.
use mathlib.Core.Path.{◌≡◌}
use Rattle.base.specs.Sum.{sum_to}
use Rattle.linear.specs.Product.{column_term}
use Rattle.linear.proofs.product.column_dot.Given as goal

abbrev pub invariant-loop-i : goal.invariant-loop-i
invariant-loop-i l = (l.sum ≡ sum_to l.i (column_term l.x l.p l.v l.b))
