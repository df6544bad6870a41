-- `job::rows_fault` meets its contract: what is left to pass says the same as the whole. Assumes nothing.
use Prim.Native.Nat.{◌+◌, ◌*◌, ◌-◌, ◌≤◌}
use mathlib.Core.Path.{◌≡◌}
use Rattle.job.specs.Faults.{rows_fault}
use Rattle.job.proofs.faults.rows_fault.Given as goal

abbrev pub invariant-loop-i : goal.invariant-loop-i
invariant-loop-i l = (l.at ≤ l.p + 81912 * l.i) × (rows_fault l.s l.at (l.n - l.i) ≡ rows_fault l.s l.p l.n)
