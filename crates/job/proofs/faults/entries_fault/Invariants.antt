-- `job::entries_fault` meets its contract: what is left to pass says the same as the whole. Assumes nothing.
use Prim.Native.Nat.{◌+◌, ◌*◌, ◌-◌}
use mathlib.Core.Path.{◌≡◌}
use Rattle.job.specs.Faults.{entries_fault}
use Rattle.job.proofs.faults.entries_fault.Given as goal

abbrev pub invariant-loop-i : goal.invariant-loop-i
invariant-loop-i l = entries_fault l.s (l.p + 10 * l.i) (l.n - l.i) ≡ entries_fault l.s l.p l.n
