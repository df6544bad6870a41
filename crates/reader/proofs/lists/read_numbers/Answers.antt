-- `reader::read_numbers` meets its contract: the front of the slice holds the doubles passed. Assumes nothing.
use native.Mathlib.Omega.{arith}
use Rattle.job.specs.Format.{number}
use Rattle.reader.proofs.Laying.{build_none, build_step}
use Rattle.reader.proofs.lists.read_numbers.Goals as goal

pub loop-i-init : goal.loop-i-init
loop-i-init c = build_none _ _

pub loop-i-preserved : goal.loop-i-preserved
loop-i-preserved c = build_step (number c.args.s.now c.args.a) c.args.out.now _ _ _ c.double_at.ensures (omega arith) c.loop-i.invariant
