-- `manytext::put_part` meets its contract: its parts of the buffers are those of the response. Assumes nothing.
use mathlib.Core.Path.{refl}
use Rattle.manytext.proofs.Written.{part_written}
use Rattle.manytext.proofs.texts.put_part.Goals as goal

pub returns : goal.returns
returns c = part_written c.args.i _ _ _ _ _ c.args.settings _ _ _ _ _ c.results_length-block.ensures c.offset-first.ensures.0 refl c.offset-at.ensures.0 refl c.put_response.ensures
