-- `factor::over_d` meets its contract: before turn i the first i entries are divided.
use mathlib.Core.Path.{◌≡◌}
use lib.ListN.{length}
use Rattle.base.specs.InPlace.{fill_by}
use Rattle.factor.specs.Substitution.{over_d_rule}
use Rattle.factor.proofs.substitution.over_d.Given as goal

abbrev pub invariant-loop-i : goal.invariant-loop-i
invariant-loop-i l = (length l.x ≡ length l.initial.x) × (l.x ≡ fill_by (over_d_rule l.s l.l) l.i l.initial.x)
