-- `tries::means` meets its contract: before turn i the first i means are written, and the predictor is as it was.
use mathlib.Core.Path.{◌≡◌}
use lib.ListN.{length}
use Rattle.base.specs.List.{fill_at}
use Rattle.base.specs.Rows.{row}
use Rattle.rule.specs.Try.{mean_at}
use Rattle.tries.proofs.passes.means.Given as goal

abbrev pub invariant-loop-i : goal.invariant-loop-i
invariant-loop-i l = (length l.rows ≡ length l.initial.rows) × (l.rows ≡ fill_at l.mu l.i (mean_at l.link (row l.next l.n l.initial.rows)) l.initial.rows)
