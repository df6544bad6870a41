-- `family_lists::dev_resid_list` meets its contract: before turn i the first i deviances are written.
use Rattle.std.proofs.Common.{◌≡◌, length}
use Rattle.base.specs.List.{fill_to}
use Rattle.family_lists.specs.Lists.{dev_resid_at}
use Rattle.family_lists.proofs.lists.dev_resid_list.Given as goal

abbrev pub invariant-loop-i : goal.invariant-loop-i
invariant-loop-i l = (length l.mu ≡ length l.y) × (l.out ≡ fill_to l.i (dev_resid_at l.family l.y l.mu l.wt) l.initial.out)
