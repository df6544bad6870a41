-- `lambda::add_column` meets its contract: before turn t the first t rows of the column are added, and those from t on are as they were.
use Rattle.lambda.proofs.Entries.{added_step}
use Rattle.base.proofs.Loops.{loops}
use borrow.Author.Rules.{rules}
use Rattle.lambda.proofs.products.add_column.Goals as goal

pub loop-t-init : goal.loop-t-init
loop-t-init c = search (rules, loops)

pub loop-t-preserved : goal.loop-t-preserved
loop-t-preserved c = added_step _ _ _ _ _ _ _ c.loop-t.invariant
