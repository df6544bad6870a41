-- `working::start_eta` meets its contract: before turn i the first i places of the row are written, and the means are as they were lent.
use mathlib.Core.Path.{◌≡◌}
use Rattle.base.specs.List.{fill_at}
use Rattle.base.specs.Rows.{row}
use Rattle.rule.specs.Run.{start_eta_at}
use Rattle.working.proofs.starting.start_eta.Given as goal

abbrev pub invariant-loop-i : goal.invariant-loop-i
invariant-loop-i l = l.rows ≡ fill_at l.eta_at l.i (start_eta_at l.link l.offset (row l.mu_at l.n l.initial.rows)) l.initial.rows
