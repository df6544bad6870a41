-- `stages::targets_into` meets its contract: before turn i the first i places of both rows are written, that of z - offset over the other.
use mathlib.Core.Path.{◌≡◌}
use lib.ListN.{length}
use Rattle.base.specs.List.{build, fill_at}
use Rattle.base.specs.Sum.{product_at}
use Rattle.rule.specs.Working.{target_at}
use Rattle.stages.proofs.weighing.targets_into.Given as goal

abbrev pub invariant-loop-i : goal.invariant-loop-i
invariant-loop-i l = (length l.r ≡ length l.initial.r) × (l.r ≡ fill_at l.working l.i (target_at l.offset l.z) (fill_at l.weighted l.i (product_at l.w (build (target_at l.offset l.z) l.n)) l.initial.r))
