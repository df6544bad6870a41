-- `lambda::add_column` meets its contract: before turn t the first t rows of the column are added, and those from t on are as they were.
use mathlib.Core.Path.{◌≡◌}
use Rattle.base.specs.List.{fill_at}
use Rattle.lambda.specs.Product.{column_added_at}
use Rattle.lambda.proofs.products.add_column.Given as goal

abbrev pub invariant-loop-t : goal.invariant-loop-t
invariant-loop-t l = l.out ≡ fill_at l.j l.t (column_added_at l.theta l.first l.x l.initial.out l.j) l.initial.out
