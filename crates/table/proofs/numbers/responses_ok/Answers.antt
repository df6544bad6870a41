-- `table::responses_ok` meets its contract: before turn i the first i responses passed, and one that fails settles it.
use Rattle.base.proofs.Sums.{all_fails, all_step}
use mathlib.Core.Path.{sym, ◌∙◌}
use Rattle.table.specs.Tests.{all_in_range}
use Rattle.base.proofs.Loops.{loops}
use borrow.Author.Rules.{rules}
use Rattle.table.proofs.numbers.responses_ok.Goals as goal

pub loop-i-init : goal.loop-i-init
loop-i-init c = search (rules, loops)

pub returns-then-not-in_range : goal.returns-then-not-in_range
unfolding all_in_range
returns-then-not-in_range c = all_fails _ _ _ c.loop-i-test.true (sym c.in_range.ensures ∙ c.if-not-in_range.true)

pub loop-i-preserved : goal.loop-i-preserved
loop-i-preserved c = all_step _ _ c.loop-i.invariant (sym c.in_range.ensures ∙ c.if-not-in_range.false)

pub returns : goal.returns
unfolding all_in_range
returns c = search (rules, loops)
