-- `points::move_effects` meets its contract: before turn i the first i effects are moved, and û, L and z are as they were lent.
use mathlib.Core.Path.{◌≡◌}
use Prim.Native.Nat.{◌+◌, ◌*◌}
use lib.ListN.{length}
use Rattle.base.specs.List.{fill_at}
use Rattle.base.specs.Rows.{row}
use Rattle.agq_rule.specs.Term.{moved_at}
use Rattle.points.proofs.trials.move_effects.Given as goal

abbrev pub invariant-loop-i : goal.invariant-loop-i
invariant-loop-i l = (length l.m ≡ length l.initial.m) × (l.le ≡ l.l + l.k * l.k) × (l.ze ≡ l.z + l.k) × (l.m ≡ fill_at l.trial l.i (moved_at l.k (row l.l (l.k * l.k) l.initial.m) (row l.z l.k l.initial.m) 0 (row l.u l.k l.initial.m)) l.initial.m)
