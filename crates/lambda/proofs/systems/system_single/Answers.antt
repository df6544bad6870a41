-- `lambda::system_single` meets its contract: before column c the first c entries are the products with the one number, with 1 more on the diagonal.
use mathlib.Core.Path.{refl}
use lib.ListN.{length-set}
use native.Mathlib.Omega.{arith}
use Rattle.base.proofs.Fills.{fillat_none, fillat_step}
use Rattle.lambda.proofs.Entries.{system_single}
use Rattle.lambda.proofs.systems.system_single.Goals as goal

pub loop-c-init : goal.loop-c-init
loop-c-init c = ((omega arith, refl), fillat_none _ _ _)

pub loop-c-preserved : goal.loop-c-preserved
loop-c-preserved c =
    let l = c.loop-c in
    ((omega arith, simp length-set (omega arith)), rw (c.plus_unit.ensures, system_single c.args.x c.args.k.now c.args.q c.args.a l.c _ c.offset-i.ensures.0) (fillat_step _ _ _ _ _ l.invariant.1))
