-- `lambda::right_columns` meets its contract: before column c the rows before it hold the columns before it.
use mathlib.Core.Path.{◌∙◌}
use Rattle.base.proofs.Fills.{grid_step}
use Rattle.base.proofs.Loops.{loops}
use borrow.Author.Rules.{rules}
use Rattle.lambda.proofs.systems.right_columns.Goals as goal

pub loop-c-init : goal.loop-c-init
loop-c-init c = search (rules, loops)

pub loop-c-preserved : goal.loop-c-preserved
loop-c-preserved c = c.right_column.ensures ∙ grid_step _ _ _ _ _ c.loop-c.invariant
