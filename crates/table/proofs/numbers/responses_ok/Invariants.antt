-- `table::responses_ok` meets its contract: before turn i the first i responses passed, and one that fails settles it.
use mathlib.Core.Path.{◌≡◌}
use mathlib.Core.Bool.{true}
use Rattle.base.specs.Sum.{all_to}
use Rattle.table.specs.Tests.{in_range_at}
use Rattle.table.proofs.numbers.responses_ok.Given as goal

abbrev pub invariant-loop-i : goal.invariant-loop-i
invariant-loop-i l = (true ≡ all_to l.i (in_range_at l.family l.y))
