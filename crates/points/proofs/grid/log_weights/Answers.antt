-- `points::log_weights` meets its contract: before turn i the first i logarithms are written.
use native.Mathlib.Omega.{arith}
use lib.ListN.{length-set}
use Rattle.base.proofs.Fills.{fill_none, fill_step}
use Rattle.points.specs.Grid.{log_at}
use Rattle.points.proofs.grid.log_weights.Goals as goal

pub loop-i-init : goal.loop-i-init
loop-i-init c = (omega arith, fill_none _ _)

pub loop-i-preserved : goal.loop-i-preserved
unfolding log_at
loop-i-preserved c =
    let a = c.args in
    let l = c.loop-i in
    (simp length-set (omega arith), rw c.ln.ensures (fill_step (log_at a.weights.now) a.logs.now l.i l.logs l.invariant.1))
