-- `job::entries_fault` meets its contract: what is left to pass says the same as the whole. Assumes nothing.
use mathlib.Core.Path.{sym, ◌∙◌}
use Rattle.job.proofs.FaultLaws.{entries_on}
use Rattle.job.proofs.faults.entries_fault.Goals as goal

pub loop-i-preserved : goal.loop-i-preserved
loop-i-preserved c = entries_on _ _ _ _ _ c.loop-i-test.true (sym c.entry_fault.ensures ∙ c.in_ok-entry_fault.was) ∙ c.loop-i.invariant
