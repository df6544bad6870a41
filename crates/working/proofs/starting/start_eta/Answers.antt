-- `working::start_eta` meets its contract: before turn i the first i places of the row are written, and the means are as they were lent.
use Rattle.base.proofs.Fills.{fillat_none, fillat_step}
use Rattle.base.proofs.Rows.{fillat_wrote}
use Rattle.working.proofs.Entries.{eta_entry}
use native.Mathlib.Omega.{arith}
use Rattle.working.proofs.starting.start_eta.Goals as goal

pub loop-i-init : goal.loop-i-init
loop-i-init c = fillat_none _ _ _

pub loop-i-preserved : goal.loop-i-preserved
loop-i-preserved c =
    let a = c.args in
    let at = c.loop-i in
    rw (c.plus_offset.ensures, eta_entry a.link a.offset.now a.mu_at a.eta_at a.n at.i a.rows.now at.rows _ c.requires.1 (omega arith) (omega arith) at.invariant c.link_fun-eta.ensures) (fillat_step _ _ _ _ _ at.invariant)

pub returns : goal.returns
returns c = fillat_wrote _ _ _ _ _ _ c.loop-i.invariant (omega arith) (omega arith) (omega arith)
