-- `blocks_coded::plain` meets its contract: each number is the answer's own, and the flag is 0 or 1. Assumes nothing.
use mathlib.Core.Path.{refl}
use Rattle.blocks_coded.specs.Plain.{plain_of}
use Rattle.blocks_coded.proofs.plain.Goals as goal

pub returns : goal.returns
unfolding plain_of
returns c = rw (← c.flag-settled.ensures) refl
