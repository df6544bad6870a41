-- `lambda::system` meets its contract: before row a the rows before it are those of A.
use mathlib.Core.Path.{◌∙◌}
use Rattle.base.proofs.Fills.{grid_step}
use Rattle.base.proofs.Loops.{loops}
use borrow.Author.Rules.{rules}
use Rattle.lambda.proofs.systems.system.Goals as goal

pub loop-a-init : goal.loop-a-init
loop-a-init c = search (rules, loops)

pub loop-a-preserved : goal.loop-a-preserved
loop-a-preserved c = c.system_row.ensures ∙ grid_step _ _ _ _ _ c.loop-a.invariant
