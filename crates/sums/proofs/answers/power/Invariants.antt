-- `sums::power` meets its contract: before turn i the power is size^i, which no later one falls below.
use mathlib.Core.Path.{◌≡◌}
use Prim.Native.Nat.{◌^◌}
use Rattle.sums.proofs.answers.power.Given as goal

abbrev pub invariant-loop-i : goal.invariant-loop-i
invariant-loop-i l = (l.power ≡ l.size ^ l.i)
