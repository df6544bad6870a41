-- `results::standard_errors` meets its contract: before turn a the first a places are written.
use mathlib.Core.Path.{◌≡◌}
use lib.ListN.{length}
use Rattle.base.specs.List.{fill_to}
use Rattle.rule.specs.Results.{se_at}
use Rattle.results.proofs.fixed.standard_errors.Given as goal

abbrev pub invariant-loop-a : goal.invariant-loop-a
invariant-loop-a l = (length l.out ≡ length l.initial.out) × (l.out ≡ fill_to l.a (se_at l.p l.v) l.initial.out)
