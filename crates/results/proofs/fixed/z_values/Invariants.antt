-- `results::z_values` meets its contract: before turn a the first a places are written.
use mathlib.Core.Path.{◌≡◌}
use lib.ListN.{length}
use Rattle.base.specs.List.{fill_to}
use Rattle.rule.specs.Results.{z_value_at}
use Rattle.results.proofs.fixed.z_values.Given as goal

abbrev pub invariant-loop-a : goal.invariant-loop-a
invariant-loop-a l = (length l.out ≡ length l.initial.out) × (l.out ≡ fill_to l.a (z_value_at l.beta l.se) l.initial.out)
