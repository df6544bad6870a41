-- `blocks_coded::with_start` meets its contract: its two arms are the definition's cases. Assumes nothing.
use mathlib.Core.Path.{sym, ◌∙◌}
use Rattle.blocks_coded.specs.Coded.{with_start}
use Rattle.blocks_coded.proofs.with_start.Goals as goal

pub returns-in-Some : goal.returns-in-Some
unfolding with_start
returns-in-Some c = rw (sym c.start_coded.ensures ∙ c.in-Some.is) c.with_names.ensures

pub returns-in-None : goal.returns-in-None
unfolding with_start
returns-in-None c = rw (sym c.start_coded.ensures ∙ c.in-None.is) c.without_name.ensures
