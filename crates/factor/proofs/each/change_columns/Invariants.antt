-- `factor::each::change_columns` meets its contract: before turn a the first a columns are changed.
use Rattle.std.proofs.Common.{◌≡◌, ◌<◌, ℕ, List, Float, length}
use Rattle.base.specs.List.{grid_to}
use Rattle.factor.specs.Sides.{changed_at}
use Rattle.factor.proofs.each.change_columns.Given as goal

abbrev pub invariant-loop-a : goal.invariant-loop-a
invariant-loop-a g l =
    (h : ℕ → List Float → List Float) → ((a : ℕ) (b c : _) → a < l.n → length b.now ≡ l.s → goal.F-post g l.change a b tt c → c.now ≡ h a b.now)
    → l.x ≡ grid_to l.a l.s (changed_at h l.s l.initial.x) l.initial.x
