-- `names::kept` meets its contract: what stands from place i on is blank.
use mathlib.Core.Path.{◌≡◌}
use lib.ListN.{take}
use Rattle.names.specs.Names.{trim_end}
use Rattle.names.proofs.kept.Given as goal

abbrev pub invariant-loop-i : goal.invariant-loop-i
invariant-loop-i l = trim_end (take l.i l.s) ≡ trim_end l.s
