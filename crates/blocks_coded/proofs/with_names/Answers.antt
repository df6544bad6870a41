-- `blocks_coded::with_names` meets its contract: it copies the numbers, and the limit is read. Assumes nothing.
use mathlib.Core.Path.{refl}
use Rattle.blocks_coded.specs.Coded.{named}
use Rattle.blocks_coded.proofs.with_names.Goals as goal

pub returns : goal.returns
unfolding named
returns c = rw (← c.limit_in-limit.ensures) refl
