-- `factor::unit_backward` meets its contract: with i entries left, those from i on are the rule's.
use mathlib.Core.Path.{◌≡◌}
use Prim.Native.Nat.{◌≤◌, ◌-◌}
use lib.ListN.{length}
use Rattle.base.specs.InPlace.{fill_down}
use Rattle.factor.specs.Substitution.{unit_backward_rule}
use Rattle.factor.proofs.substitution.unit_backward.Given as goal

abbrev pub invariant-loop-i : goal.invariant-loop-i
invariant-loop-i l = (l.i ≤ l.s) × (length l.x ≡ length l.initial.x) × (l.x ≡ fill_down (unit_backward_rule l.s l.l) l.s (l.s - l.i) l.initial.x)
