-- `blocks_coded::with_link` meets its contract: its two arms are the definition's cases. Assumes nothing.
use mathlib.Core.Path.{sym, ◌∙◌}
use Rattle.blocks_coded.specs.Coded.{with_link}
use Rattle.blocks_coded.proofs.with_link.Goals as goal

pub returns-in-Some : goal.returns-in-Some
unfolding with_link
returns-in-Some c = rw (sym c.link_coded.ensures ∙ c.in-Some.is) c.with_start.ensures

pub returns-in-None : goal.returns-in-None
unfolding with_link
returns-in-None c = rw (sym c.link_coded.ensures ∙ c.in-None.is) c.without_name.ensures
