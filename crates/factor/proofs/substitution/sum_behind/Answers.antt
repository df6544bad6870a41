-- `factor::sum_behind` meets its contract: before turn k the sum is that of the first k products, of which the zeros before `head` leave +0.0.
use native.Mathlib.Omega.{arith}
use Rattle.factor.proofs.ZeroTerms.{head_to}
use Rattle.base.proofs.Loops.{loops}
use borrow.Author.Rules.{rules}
use Rattle.factor.proofs.substitution.sum_behind.Goals as goal

pub loop-k-init : goal.loop-k-init
loop-k-init c = (omega arith, head_to _ _ (λ k l. c.requires.3 k (omega arith) l))

pub loop-k-preserved : goal.loop-k-preserved
loop-k-preserved c = search (rules, loops)
