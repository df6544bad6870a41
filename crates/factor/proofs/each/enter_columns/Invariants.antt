-- `factor::each::enter_columns` meets its contract: before turn a the first a columns have their entry by the rule, the flag says whether all these are finite, and nothing else has changed.
use Rattle.std.proofs.Common.{◌≡◌, ◌*◌, ℕ, length}
use Rattle.base.specs.Rows.{Only}
use Rattle.base.specs.InPlace.{Rule}
use Rattle.factor.specs.Sides.{Entered, RowEntered}
use Rattle.factor.proofs.each.enter_columns.Given as goal

abbrev pub invariant-loop-a : goal.invariant-loop-a
invariant-loop-a q l =
    Only 0 (l.a * l.s) l.initial.x l.x
    × ((g : Rule) (i : ℕ) → ((b c : _) (r : _) → length b.now ≡ l.s → goal.F-post q l.enter b r c → Entered g i b.now r c.now) → RowEntered g i l.s l.a l.initial.x l.fine l.x)
