-- `tries::fine_etas` meets its contract: before turn i the first i etas passed, and one that fails settles it.
use mathlib.Core.Path.{◌≡◌}
use mathlib.Core.Bool.{true}
use Rattle.base.specs.Sum.{all_to}
use Rattle.base.specs.Rows.{row}
use Rattle.rule.specs.Try.{fine_eta_at}
use Rattle.tries.proofs.passes.fine_etas.Given as goal

abbrev pub invariant-loop-i : goal.invariant-loop-i
invariant-loop-i l = (true ≡ all_to l.i (fine_eta_at l.link (row l.next l.n l.rows)))
