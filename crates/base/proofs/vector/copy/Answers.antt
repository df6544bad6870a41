-- `base::copy` meets its contract: before turn i the first i places hold the first i numbers.
use Rattle.base.proofs.Loops.{loops}
use borrow.Author.Rules.{rules}
use Rattle.base.proofs.vector.copy.Goals as goal

pub loop-i-init : goal.loop-i-init
loop-i-init c = search (rules, loops)

pub loop-i-preserved : goal.loop-i-preserved
loop-i-preserved c = search (rules, loops)
