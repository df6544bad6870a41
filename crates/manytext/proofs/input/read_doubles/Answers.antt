-- `manytext::read_doubles` meets its contract: the front of the slice holds the doubles passed. Assumes nothing.
use mathlib.Core.Path.{refl}
use native.Mathlib.Omega.{arith}
use Rattle.reader.proofs.Laying.{build_none, build_step}
use Rattle.manytext.specs.Input.{word_at}
use Rattle.manytext.proofs.input.read_doubles.Goals as goal

pub loop-i-init : goal.loop-i-init
loop-i-init c = (build_none _ _, refl)

pub loop-i-preserved : goal.loop-i-preserved
loop-i-preserved c =
    let inv = c.loop-i.invariant in
    (build_step (word_at c.args.bytes.now) c.args.out.now _ _ _ c.double_at-v.ensures (omega arith) inv.0, inv.1)
