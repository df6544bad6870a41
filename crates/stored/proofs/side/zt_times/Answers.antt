-- `stored::zt_times` meets its contract: before row a the first a places hold the rows' sums.
use lib.ListN.{length-set}
use Rattle.base.proofs.Fills.{fill_none, fill_step}
use native.Mathlib.Omega.{arith}
use Rattle.stored.proofs.side.zt_times.Goals as goal

pub loop-a-init : goal.loop-a-init
loop-a-init c = fill_none _ _

pub loop-a-preserved : goal.loop-a-preserved
loop-a-preserved c = rw c.row_times.ensures (fill_step _ _ _ _ c.loop-a.invariant)
