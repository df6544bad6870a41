-- `factor::forward` meets its contract: before turn i the first i entries are the rule's.
use native.Mathlib.Omega.{arith}
use lib.ListN.{length-set}
use Rattle.factor.specs.Substitution.{forward}
use Rattle.factor.proofs.SubstitutionSteps.{forward_step}
use Rattle.base.proofs.Loops.{inplace}
use borrow.Author.Rules.{rules}
use Rattle.factor.proofs.substitution.forward.Goals as goal

pub loop-i-init : goal.loop-i-init
loop-i-init c = search (rules, inplace)

pub loop-i-preserved : goal.loop-i-preserved
loop-i-preserved c = (simp length-set (omega arith), rw c.dot_from-sum.ensures (forward_step _ _ _ _ _ _ c.offset-o.ensures.0 c.loop-i.invariant.1))

pub returns : goal.returns
unfolding forward
returns c = search (rules, inplace)
