-- `quadrature::exp_sum` meets its contract: before turn i the sum is that of the first i terms.
use Rattle.base.proofs.Sums.{sum_step}
use Rattle.quadrature.specs.LogSum.{exp_term}
use Rattle.base.proofs.Loops.{loops}
use borrow.Author.Rules.{rules}
use Rattle.quadrature.proofs.logsum.exp_sum.Goals as goal

pub loop-x-init : goal.loop-x-init
loop-x-init c = search (rules, loops)

pub loop-x-preserved : goal.loop-x-preserved
unfolding exp_term
loop-x-preserved c = rw c.exp-sum.ensures (sum_step (exp_term c.args.xs.now c.args.m) _ _ c.loop-x.invariant)
