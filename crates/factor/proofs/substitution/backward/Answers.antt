-- `factor::backward` meets its contract: with i entries left, those from i on are the rule's.
use Rattle.base.proofs.InPlace.{down_end}
use native.Mathlib.Omega.{arith}
use lib.ListN.{length-set}
use Rattle.factor.specs.Substitution.{backward}
use Rattle.factor.proofs.SubstitutionSteps.{backward_step}
use Rattle.base.proofs.Loops.{inplace}
use borrow.Author.Rules.{rules}
use Rattle.factor.proofs.substitution.backward.Goals as goal

pub loop-i-init : goal.loop-i-init
loop-i-init c = search (rules, inplace)

pub loop-i-preserved : goal.loop-i-preserved
loop-i-preserved c = (omega arith, simp length-set (omega arith), rw c.sum_below-below.ensures (backward_step _ _ _ _ _ _ c.offset-o.ensures.0 c.loop-i.i (omega arith) (omega arith) c.loop-i.invariant.2))

pub returns : goal.returns
unfolding backward
returns c = down_end _ _ _ _ _ (omega arith) c.loop-i.invariant.2
