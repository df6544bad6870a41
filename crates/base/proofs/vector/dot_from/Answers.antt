-- `base::dot_from` meets its contract: before turn i the sum is that of the first i products.
use Rattle.base.proofs.Loops.{loops}
use borrow.Author.Rules.{rules}
use Rattle.base.proofs.vector.dot_from.Goals as goal

pub loop-i-init : goal.loop-i-init
loop-i-init c = search (rules, loops)

pub loop-i-preserved : goal.loop-i-preserved
loop-i-preserved c = search (rules, loops)
