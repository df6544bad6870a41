-- `base::copy` meets its contract: before turn i the first i places hold the first i numbers.
use mathlib.Core.Path.{◌≡◌}
use lib.ListN.{length}
use Rattle.base.specs.List.{fill_to, entry_of}
use Rattle.base.proofs.vector.copy.Given as goal

abbrev pub invariant-loop-i : goal.invariant-loop-i
invariant-loop-i l = (length l.out ≡ length l.initial.out) × (l.out ≡ fill_to l.i (entry_of l.a) l.initial.out)
