-- `table::weights_ok` meets its contract: before turn i the first i weights passed, and one that is below 0 settles it.
use Rattle.base.proofs.Sums.{all_fails, all_step}
use mathlib.Core.Path.{ap}
use mathlib.Core.Bool.{not}
use Rattle.table.specs.Tests.{none_below}
use Rattle.base.proofs.Loops.{loops}
use borrow.Author.Rules.{rules}
use Rattle.table.proofs.numbers.weights_ok.Goals as goal

pub loop-i-init : goal.loop-i-init
loop-i-init c = search (rules, loops)

pub returns-then-weights-i : goal.returns-then-weights-i
unfolding none_below
returns-then-weights-i c = all_fails _ _ _ c.loop-i-test.true (ap not c.if-weights-i.true)

pub loop-i-preserved : goal.loop-i-preserved
loop-i-preserved c = all_step _ _ c.loop-i.invariant (ap not c.if-weights-i.false)

pub returns : goal.returns
unfolding none_below
returns c = search (rules, loops)
