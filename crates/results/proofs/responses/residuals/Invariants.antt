-- `results::residuals` meets its contract: before turn i the first i places are written.
use mathlib.Core.Path.{◌≡◌}
use lib.ListN.{length}
use Rattle.base.specs.List.{fill_to}
use Rattle.rule.specs.Results.{residual_at}
use Rattle.results.proofs.responses.residuals.Given as goal

abbrev pub invariant-loop-i : goal.invariant-loop-i
invariant-loop-i l = (length l.out ≡ length l.initial.out) × (l.out ≡ fill_to l.i (residual_at l.y l.mu) l.initial.out)
