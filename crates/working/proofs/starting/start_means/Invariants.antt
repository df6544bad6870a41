-- `working::start_means` meets its contract: before turn i the first i places are written.
use mathlib.Core.Path.{◌≡◌}
use Rattle.base.specs.List.{fill_to}
use Rattle.rule.specs.Run.{start_mean_at}
use Rattle.working.proofs.starting.start_means.Given as goal

abbrev pub invariant-loop-i : goal.invariant-loop-i
invariant-loop-i l = l.out ≡ fill_to l.i (start_mean_at l.start l.family l.y l.weights) l.initial.out
