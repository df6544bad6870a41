-- `working::mode_deviances` meets its contract: before turn i the first i places of the row are written, and the means are as they were lent.
use mathlib.Core.Path.{◌≡◌}
use Rattle.base.specs.List.{fill_at}
use Rattle.base.specs.Rows.{row}
use Rattle.family_lists.specs.Lists.{dev_resid_at}
use Rattle.working.proofs.stopping.mode_deviances.Given as goal

abbrev pub invariant-loop-i : goal.invariant-loop-i
invariant-loop-i l = l.rows ≡ fill_at l.dev_at l.i (dev_resid_at l.family l.y (row l.mu_at l.n l.initial.rows) l.weights) l.initial.rows
