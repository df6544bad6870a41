-- `intake::after_read` meets its contract: what is not negative is a number of bytes. Assumes nothing.
use mir.Syntax.{w64}
use mir.ValLaws.{to_z-of_z}
use Rattle.intake.proofs.Steps.{failed_step, read_step}
use Rattle.intake.proofs.after_read.Goals as goal

pub returns-in-Ok : goal.returns-in-Ok
returns-in-Ok c = read_step _ _ _ _ (to_z-of_z w64 _ c.ranges.got) _ _ c.in-Ok.ensures.0 c.in-Ok.ensures.1 c.after_bytes.ensures

pub returns-in-Err : goal.returns-in-Err
returns-in-Err c = failed_step _ _ _ _ (to_z-of_z w64 _ c.ranges.got) c.ranges.got c.in-Err.ensures
