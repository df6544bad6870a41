-- `blocks_coded::settings_of` meets its contract: its two arms are the definition's cases. Assumes nothing.
use mathlib.Core.Path.{sym, ◌∙◌}
use Rattle.blocks_coded.specs.Coded.{with_family, settings_of}
use Rattle.blocks_coded.proofs.settings_of.Goals as goal

pub returns-in-Some : goal.returns-in-Some
unfolding settings_of with_family
returns-in-Some c = rw (sym c.family_coded.ensures ∙ c.in-Some.is) c.with_link.ensures

pub returns-in-None : goal.returns-in-None
unfolding settings_of with_family
returns-in-None c = rw (sym c.family_coded.ensures ∙ c.in-None.is) c.without_name.ensures
