-- `manytext::reading_of` meets its contract: its arrays have room for any job. Assumes nothing.
use mathlib.Core.Path.{◌∙◌}
use Rattle.job.proofs.FaultLaws.{refused}
use Rattle.jobfit.proofs.Reading.{fresh_room}
use Rattle.manytext.proofs.Reading.{found_reading, fault_reading}
use Rattle.manytext.proofs.input.reading_of.Goals as goal

pub returns-in_err-found : goal.returns-in_err-found
returns-in_err-found c = refused _ _ c.from_residual.ensures.1 ∙ fault_reading _ _ _ _ fresh_room c.read_job.ensures _ c.in_err-found.was

pub returns : goal.returns
returns c = found_reading _ _ _ _ fresh_room c.read_job.ensures _ c.in_ok-found.was
