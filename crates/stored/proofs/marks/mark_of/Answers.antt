-- `stored::mark_of` meets its contract: a number that is no byte is above 255.
use mathlib.Core.Path.{◌∙◌}
use Rattle.stored.proofs.Apart.{byte_lesser}
use Rattle.stored.proofs.marks.mark_of.Goals as goal

pub returns : goal.returns
returns c = c.unwrap_or.ensures ∙ byte_lesser c.try_from.result c.args.x c.try_from.ensures
