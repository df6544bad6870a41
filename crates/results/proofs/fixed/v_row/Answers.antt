-- `results::v_row` meets its contract: before turn b the first b entries of the row are v's.
use lib.ListN.{length-set}
use Rattle.base.proofs.Fills.{fillat_none, fillat_step}
use native.Mathlib.Omega.{arith}
use Rattle.results.proofs.fixed.v_row.Goals as goal

pub loop-b-init : goal.loop-b-init
loop-b-init c = (omega arith, fillat_none _ _ _)

pub loop-b-preserved : goal.loop-b-preserved
loop-b-preserved c = (simp length-set (omega arith), rw (c.v_at.ensures, c.offset-o.ensures.0) (fillat_step _ _ _ _ _ c.loop-b.invariant.1))
