-- `names::blanks_before` meets its contract: what stands before place i is blank.
use mathlib.Core.Path.{◌≡◌}
use lib.ListN.{drop}
use Rattle.names.specs.Names.{trim_front}
use Rattle.names.proofs.blanks_before.Given as goal

abbrev pub invariant-loop-i : goal.invariant-loop-i
invariant-loop-i l = trim_front (drop l.i l.s) ≡ trim_front l.s
