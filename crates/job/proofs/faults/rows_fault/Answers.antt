-- `job::rows_fault` meets its contract: what is left to pass says the same as the whole. Assumes nothing.
use mathlib.Core.Path.{sym, ◌∙◌}
use native.Mathlib.Omega.{arith}
use Rattle.job.proofs.FaultLaws.{rows_on}
use Rattle.job.proofs.faults.rows_fault.Goals as goal

pub loop-i-preserved : goal.loop-i-preserved
loop-i-preserved c =
    let on = rows_on _ _ _ _ _ _ c.loop-i-test.true (sym c.row_fault.ensures ∙ c.in_ok-row_fault.was) c.field_at.ensures.0 in
    (omega arith, on ∙ c.loop-i.invariant.1)
