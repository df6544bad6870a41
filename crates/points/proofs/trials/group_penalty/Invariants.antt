-- `points::group_penalty` meets its contract: before turn i the sum is that of the first i effects.
use mathlib.Core.Path.{◌≡◌}
use Rattle.base.specs.Sum.{sum_to}
use Rattle.agq_rule.specs.Term.{penalty_at}
use Rattle.points.proofs.trials.group_penalty.Given as goal

abbrev pub invariant-loop-i : goal.invariant-loop-i
invariant-loop-i l = (l.sum ≡ sum_to l.i (penalty_at l.t l.u))
