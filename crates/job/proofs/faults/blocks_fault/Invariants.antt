-- `job::blocks_fault` meets its contract: what is left to pass says the same as the whole. Assumes nothing.
use Prim.Native.Nat.{◌+◌, ◌*◌, ◌-◌}
use mathlib.Core.Path.{◌≡◌}
use Rattle.job.specs.Faults.{blocks_fault}
use Rattle.job.proofs.faults.blocks_fault.Given as goal

abbrev pub invariant-loop-i : goal.invariant-loop-i
invariant-loop-i l = blocks_fault l.s (l.p + 2 * l.i) (l.n - l.i) ≡ blocks_fault l.s l.p l.n
