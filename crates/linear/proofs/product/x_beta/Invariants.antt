-- `linear::x_beta` meets its contract: before turn i the first i places hold the rows' sums.
use mathlib.Core.Path.{◌≡◌}
use lib.ListN.{length}
use Rattle.base.specs.List.{fill_to}
use Rattle.linear.specs.Product.{x_beta_at}
use Rattle.linear.proofs.product.x_beta.Given as goal

abbrev pub invariant-loop-i : goal.invariant-loop-i
invariant-loop-i l = (length l.out ≡ length l.initial.out) × (l.out ≡ fill_to l.i (x_beta_at l.x l.p l.beta) l.initial.out)
