-- `factor::backward_columns` meets its contract: with i entries left, those of every right side from i on are the rule's, and the flag says that all are finite.
use mathlib.Core.Path.{◌≡◌}
use mathlib.Core.Bool.{true}
use lib.ListN.{length}
use Rattle.base.specs.Number.{finite}
use Rattle.base.specs.List.{at}
use Prim.Native.Nat.{ℕ, ◌≤◌, ◌<◌, ◌-◌}
use Rattle.base.specs.InPlace.{fill_down}
use Rattle.factor.specs.Substitution.{unit_backward_rule}
use Rattle.factor.specs.Sides.{each_column}
use Rattle.factor.proofs.sides.backward_columns.Given as goal

abbrev pub invariant-loop-i : goal.invariant-loop-i
invariant-loop-i l = (l.i ≤ l.s) × (length l.x ≡ length l.initial.x) × (l.x ≡ each_column (fill_down (unit_backward_rule l.s l.l) l.s (l.s - l.i)) l.s l.count l.initial.x) × (l.fine ≡ true → (a k : ℕ) → a < l.count → l.i ≤ k → k < l.s → finite (at l.s l.x a k) ≡ true)
