-- `results::v_rows` meets its contract: before turn a the first a rows are written.
use mathlib.Core.Path.{◌∙◌}
use Rattle.base.proofs.Fills.{grid_step}
use Rattle.base.proofs.Loops.{loops}
use borrow.Author.Rules.{rules}
use Rattle.results.proofs.fixed.v_rows.Goals as goal

pub loop-a-init : goal.loop-a-init
loop-a-init c = search (rules, loops)

pub loop-a-preserved : goal.loop-a-preserved
loop-a-preserved c = (search rules, c.v_row.ensures ∙ grid_step _ _ _ _ _ c.loop-a.invariant.1)
