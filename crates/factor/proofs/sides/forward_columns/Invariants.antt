-- `factor::forward_columns` meets its contract: before turn i the first i entries of every right side are the rule's, and the flag says that all are finite.
use mathlib.Core.Path.{◌≡◌}
use mathlib.Core.Bool.{true}
use lib.ListN.{length}
use Rattle.base.specs.Number.{finite}
use Rattle.base.specs.List.{at}
use Prim.Native.Nat.{ℕ, ◌<◌}
use Rattle.base.specs.InPlace.{fill_by}
use Rattle.factor.specs.Substitution.{unit_forward_rule}
use Rattle.factor.specs.Sides.{each_column}
use Rattle.factor.proofs.sides.forward_columns.Given as goal

abbrev pub invariant-loop-i : goal.invariant-loop-i
invariant-loop-i l = (length l.x ≡ length l.initial.x) × (l.x ≡ each_column (fill_by (unit_forward_rule l.s l.l) l.i) l.s l.count l.initial.x) × (l.fine ≡ true → (a k : ℕ) → a < l.count → k < l.i → finite (at l.s l.x a k) ≡ true)
