-- `family_lists::each` meets its contract: before turn i the first i entries are written.
use Rattle.std.proofs.Common.{◌≡◌}
use lib.Ieee.{Float}
use Rattle.base.specs.List.{fill_to}
use Rattle.family_lists.specs.Lists.{each}
use Rattle.family_lists.proofs.lists.each.Given as goal

abbrev pub invariant-loop-i : goal.invariant-loop-i
invariant-loop-i g l = (rule : Float → Float) → ((x r : Float) → goal.F-post g l.f x r → r ≡ rule x) → l.out ≡ fill_to l.i (each rule l.xs) l.initial.out
