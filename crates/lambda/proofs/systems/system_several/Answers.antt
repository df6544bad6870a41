-- `lambda::system_several` meets its contract: before column c the first c entries are the sums over the column's numbers, with 1 more on the diagonal.
use mathlib.Core.Path.{refl}
use Prim.Native.Nat.{◌+◌, ◌-◌}
use lib.ListN.{length, length-set}
use native.Mathlib.Omega.{arith}
use Rattle.base.proofs.Fills.{fillat_none, fillat_step}
use Rattle.lambda.proofs.Entries.{system_dot}
use Rattle.lambda.proofs.systems.system_several.Goals as goal

pub loop-c-init : goal.loop-c-init
loop-c-init c = ((omega arith, refl), fillat_none _ _ _)

pub loop-c-preserved : goal.loop-c-preserved
loop-c-preserved c =
    let l = c.loop-c in
    let i = c.offset in
    let z = system_dot c.args.first c.args.count c.args.theta.now c.args.k.now c.args.q c.args.a l.c _ (length c.args.k.now - (i.result + c.args.a)) _ c.dot_from-sum.ensures i.ensures.0 (omega (arith, l.invariant, c.requires, i.ensures)) in
    ((omega arith, simp length-set (omega arith)), rw (c.plus_unit.ensures, z) (fillat_step _ _ _ _ _ l.invariant.1))
