-- `factor::unit_forward` meets its contract: before turn i the first i entries are the rule's.
use mathlib.Core.Path.{◌≡◌}
use lib.ListN.{length}
use Rattle.base.specs.InPlace.{fill_by}
use Rattle.factor.specs.Substitution.{unit_forward_rule}
use Rattle.factor.proofs.substitution.unit_forward.Given as goal

abbrev pub invariant-loop-i : goal.invariant-loop-i
invariant-loop-i l = (length l.x ≡ length l.initial.x) × (l.x ≡ fill_by (unit_forward_rule l.s l.l) l.i l.initial.x)
