-- `fitjob::read_past` meets its contract: what is held is what was there. Assumes nothing.
use native.Mathlib.Omega.{arith}
use Rattle.fitjob.proofs.Reading.{ended_within}
use Rattle.fitjob.proofs.read_past.Goals as goal

pub returns-in-Break : goal.returns-in-Break
returns-in-Break g c = ended_within c.args.room c.args.room _ _ _ c.after_read.ensures c.in-Break.is (omega arith)
