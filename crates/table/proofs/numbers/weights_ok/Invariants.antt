-- `table::weights_ok` meets its contract: before turn i the first i weights passed, and one that is below 0 settles it.
use mathlib.Core.Path.{◌≡◌}
use mathlib.Core.Bool.{true}
use Rattle.base.specs.Sum.{all_to}
use Rattle.table.specs.Tests.{not_below_at}
use Rattle.table.proofs.numbers.weights_ok.Given as goal

abbrev pub invariant-loop-i : goal.invariant-loop-i
invariant-loop-i l = (true ≡ all_to l.i (not_below_at l.weights))
