-- `factor::sum_further` meets its contract: before turn k the sum is that of the rows from i + 1 to k - 1, of which the zeros before `head` leave +0.0.
use native.Mathlib.Omega.{arith}
use Rattle.base.proofs.Sums.{from_step}
use Rattle.factor.proofs.ZeroTerms.{head_from}
use Rattle.factor.specs.Substitution.{down_term}
use Rattle.factor.proofs.substitution.sum_further.Goals as goal

pub loop-k-init : goal.loop-k-init
loop-k-init c = (omega arith, omega arith, head_from _ _ _ c.requires.5)

pub loop-k-preserved : goal.loop-k-preserved
unfolding down_term
loop-k-preserved c = (omega arith, omega arith, rw c.offset-o.ensures.0 (from_step _ _ _ _ (omega arith) c.loop-k.invariant.2))
