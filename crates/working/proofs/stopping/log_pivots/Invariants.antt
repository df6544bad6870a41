-- `working::log_pivots` meets its contract: before turn i the sum is that of the first i logarithms.
use mathlib.Core.Path.{◌≡◌}
use Rattle.base.specs.Sum.{sum_to}
use Rattle.rule.specs.Stop.{log_pivot_at}
use Rattle.working.proofs.stopping.log_pivots.Given as goal

abbrev pub invariant-loop-i : goal.invariant-loop-i
invariant-loop-i l = l.sum ≡ sum_to l.i (log_pivot_at l.q l.factor)
