-- `lambda::columns_transposed` meets its contract: before column j the first j entries are done, and those that its sum needs still stand.
use mathlib.Core.Path.{◌≡◌}
use lib.ListN.{length}
use Rattle.base.specs.List.{fill_to}
use Rattle.lambda.specs.Product.{lambda_transposed_at}
use Rattle.lambda.proofs.products.columns_transposed.Given as goal

abbrev pub invariant-loop-j : goal.invariant-loop-j
invariant-loop-j l = (length l.v ≡ length l.initial.v) × (l.v ≡ fill_to l.j (lambda_transposed_at l.shape l.theta l.initial.v) l.initial.v)
