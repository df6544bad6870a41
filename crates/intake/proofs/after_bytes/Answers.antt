-- `intake::after_bytes` meets its contract: its tests are those of the definition, and no sum overflows. Assumes nothing.
use native.Mathlib.Omega.{arith}
use Rattle.intake.proofs.Steps.{end_step, over_step, more_step}
use Rattle.intake.proofs.after_bytes.Goals.{then-room-held-via-then-room-held, then-room-held-via-else-room-held+then-room-held-2}
use Rattle.intake.proofs.after_bytes.Goals as goal

pub returns-then-n-eq0 : goal.returns-then-n-eq0
returns-then-n-eq0 c = end_step _ _ _ c.if-n-eq0.true

pub returns-then-room-held : goal.returns-then-room-held
returns-then-room-held c =
    over_step _ _ _ c.if-n-eq0.false
    (elim c.then-room-held.branch [ then-room-held-via-then-room-held w ↦ omega arith | then-room-held-via-else-room-held+then-room-held-2 w ↦ omega arith ])

pub returns : goal.returns
returns c = more_step _ _ _ c.if-n-eq0.false (omega arith)
