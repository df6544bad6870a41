-- `lines::Writer::put` meets its contract: the bytes passed stand behind what was written. Assumes nothing.
use Rattle.lines.proofs.Pieces.{copied}
use Rattle.lines.proofs.Writer.put.Goals as goal

pub returns-clause-appended : goal.returns-clause-appended
returns-clause-appended c = copied _ _ _ _ c.requires c.copy_from_slice.ensures.after
