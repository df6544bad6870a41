-- `working::deviance_sum` meets its contract: before turn i the sum is that of the first i deviances.
use mathlib.Core.Path.{◌≡◌}
use Rattle.base.specs.Sum.{sum_to}
use Rattle.base.specs.List.{entry_of}
use Rattle.working.proofs.stopping.deviance_sum.Given as goal

abbrev pub invariant-loop-i : goal.invariant-loop-i
invariant-loop-i l = l.sum ≡ sum_to l.i (entry_of l.devs)
