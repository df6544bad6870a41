-- `linear::products` meets its contract: before turn i the first i places hold the products.
use lib.ListN.{length}
use mathlib.Core.Path.{◌≡◌}
use Rattle.base.specs.Sum.{product_at}
use Rattle.base.specs.List.{fill_to}
use Rattle.linear.proofs.product.products.Given as goal

abbrev pub invariant-loop-i : goal.invariant-loop-i
invariant-loop-i l = (length l.out ≡ length l.initial.out) × (l.out ≡ fill_to l.i (product_at l.a l.b) l.initial.out)
