-- `scale::copy_row` meets its contract: before turn j the first j places are copied, and what they are read from lies before them.
use mathlib.Core.Path.{◌≡◌}
use lib.ListN.{length}
use Rattle.base.specs.List.{fill_at}
use Rattle.scale.specs.Tells.{entry_from}
use Rattle.scale.proofs.sections.copy_row.Given as goal

abbrev pub invariant-loop-j : goal.invariant-loop-j
invariant-loop-j l = (length l.m ≡ length l.initial.m) × (l.m ≡ fill_at l.to l.j (entry_from l.initial.m l.from) l.initial.m)
