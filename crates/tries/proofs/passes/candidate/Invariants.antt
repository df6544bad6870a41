-- `tries::candidate` meets its contract: before turn i the first i entries of the row are written, and the rows it reads are as they were.
use mathlib.Core.Path.{◌≡◌}
use lib.ListN.{length}
use Rattle.base.specs.List.{fill_at}
use Rattle.base.specs.Rows.{row}
use Rattle.rule.specs.Try.{candidate_at}
use Rattle.tries.proofs.passes.candidate.Given as goal

abbrev pub invariant-loop-i : goal.invariant-loop-i
invariant-loop-i l = (length l.rows ≡ length l.initial.rows) × (l.rows ≡ fill_at l.next l.i (candidate_at (row l.prev l.n l.initial.rows) (row l.raw l.n l.initial.rows) l.step) l.initial.rows)
