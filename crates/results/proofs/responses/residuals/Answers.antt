-- `results::residuals` meets its contract: before turn i the first i places are written.
use lib.ListN.{length-set}
use Rattle.base.proofs.Fills.{fill_none, fill_step}
use Rattle.rule.specs.Results.{residual_at}
use native.Mathlib.Omega.{arith}
use Rattle.results.proofs.responses.residuals.Goals as goal

pub loop-i-init : goal.loop-i-init
loop-i-init c = (omega arith, fill_none _ _)

pub loop-i-preserved : goal.loop-i-preserved
unfolding residual_at
loop-i-preserved c = let a = c.args in (simp length-set (omega arith), fill_step (residual_at a.y.now a.mu.now) _ _ _ c.loop-i.invariant.1)
