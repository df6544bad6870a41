-- `factor::ldl_sum` meets its contract: before turn k the sum is that of the first k terms, of which the zeros before `head` leave +0.0.
use Rattle.factor.specs.Factor.{ldl_term, ldl_sum}
use Rattle.base.proofs.Sums.{sum_step}
use native.Mathlib.Omega.{arith}
use Rattle.factor.proofs.ZeroTerms.{head_to}
use Rattle.base.proofs.Loops.{loops}
use borrow.Author.Rules.{rules}
use Rattle.factor.proofs.factors.ldl_sum.Goals as goal

pub loop-k-init : goal.loop-k-init
loop-k-init c = (omega arith, head_to _ _ (λ k l. c.requires.4 k (omega arith) l))

pub loop-k-preserved : goal.loop-k-preserved
unfolding ldl_term
loop-k-preserved c = (omega arith, rw (c.offset-io.ensures.0, c.offset-jo.ensures.0, c.offset-ko.ensures.0) (sum_step _ _ _ c.loop-k.invariant.1))

pub returns : goal.returns
unfolding ldl_sum
returns c = search (rules, loops)
