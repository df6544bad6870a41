-- `working::raw_row` meets its contract: before turn i the first i places are written, and entry i of Zb is as it was lent.
use mathlib.Core.Path.{◌≡◌}
use Rattle.base.specs.List.{fill_to}
use Rattle.rule.specs.Solve.{raw_at}
use Rattle.working.proofs.offsets.raw_row.Given as goal

abbrev pub invariant-loop-i : goal.invariant-loop-i
invariant-loop-i l = l.out ≡ fill_to l.i (raw_at l.offset l.x l.p l.beta l.initial.out) l.initial.out
