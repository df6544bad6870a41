-- `lambda::right_single` meets its contract: before row a the first a entries are the products with the one number.
use mathlib.Core.Path.{refl}
use lib.ListN.{length-set}
use native.Mathlib.Omega.{arith}
use Rattle.base.proofs.Fills.{fillat_none, fillat_step}
use Rattle.lambda.proofs.Entries.{right_single}
use Rattle.lambda.proofs.systems.right_single.Goals as goal

pub loop-a-init : goal.loop-a-init
loop-a-init c = ((omega arith, refl), fillat_none _ _ _)

pub loop-a-preserved : goal.loop-a-preserved
loop-a-preserved c =
    let l = c.loop-a in
    ((omega arith, simp length-set (omega arith)), rw (right_single c.args.x c.args.s.now c.args.q c.args.c l.a _ c.offset-i.ensures.0) (fillat_step _ _ _ _ _ l.invariant.1))
