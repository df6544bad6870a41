-- `job::front_fault` meets its contract: a job says no more than 15 blocks. Assumes nothing.
use mathlib.Core.Path.{ap}
use native.Mathlib.Omega.{arith}
use Rattle.bits.proofs.BitLaws.{bits_below}
use Rattle.job.specs.declared.head.Head.{Head}
use Rattle.job.proofs.SizeLaws.{head_short}
use Rattle.job.proofs.faults.front_fault.Goals as goal

pub blocks_fault-requires : goal.blocks_fault-requires
blocks_fault-requires c =
    let s = c.args.s.now in
    omega (arith, c.blocks_at.ensures, head_short s, bits_below s 34 4, ap (λ (h : Head). h.blocks) c.requires.1, c.requires.0)
