-- `lambda::right_columns` meets its contract: before column c the rows before it hold the columns before it.
use mathlib.Core.Path.{◌≡◌}
use Rattle.base.specs.List.{grid_to}
use Rattle.lambda.specs.Product.{right_column_at}
use Rattle.lambda.proofs.systems.right_columns.Given as goal

abbrev pub invariant-loop-c : goal.invariant-loop-c
invariant-loop-c l = l.out ≡ grid_to l.c l.q (right_column_at l.shape l.theta l.s) l.initial.out
