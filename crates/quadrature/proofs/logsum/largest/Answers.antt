-- `quadrature::largest` meets its contract: before turn i it is the largest of the first i.
use native.Mathlib.Omega.{arith}
use Rattle.quadrature.proofs.LogSums.{max_none, max_step, max_end}
use Rattle.quadrature.proofs.logsum.largest.Goals as goal

pub loop-x-init : goal.loop-x-init
loop-x-init c = max_none _ _ c.infinity-m.ensures

pub loop-x-preserved : goal.loop-x-preserved
loop-x-preserved c = rw c.max-m.ensures (max_step _ _ _ c.loop-x.invariant)

pub returns : goal.returns
returns c = max_end _ _ _ _ c.loop-x.invariant (omega arith) (omega arith)
