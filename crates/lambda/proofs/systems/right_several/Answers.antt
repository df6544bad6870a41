-- `lambda::right_several` meets its contract: before row a the first a entries are the sums over the column's numbers.
use mathlib.Core.Path.{refl}
use Prim.Native.Nat.{◌-◌}
use lib.ListN.{length, length-set}
use native.Mathlib.Omega.{arith}
use Rattle.base.proofs.Fills.{fillat_none, fillat_step}
use Rattle.lambda.proofs.Entries.{right_dot}
use Rattle.lambda.proofs.systems.right_several.Goals as goal

pub loop-a-init : goal.loop-a-init
loop-a-init c = ((omega arith, refl), fillat_none _ _ _)

pub loop-a-preserved : goal.loop-a-preserved
loop-a-preserved c =
    let l = c.loop-a in
    let z = right_dot c.args.first c.args.count c.args.theta.now c.args.s.now c.args.q c.args.c l.a _ (length c.args.theta.now - c.args.first) _ c.dot_from.ensures c.offset-i.ensures.0 (omega (arith, c.requires)) in
    ((omega arith, simp length-set (omega arith)), rw z (fillat_step _ _ _ _ _ l.invariant.1))
