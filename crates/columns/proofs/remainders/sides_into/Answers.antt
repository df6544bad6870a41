-- `columns::sides_into` meets its contract: before turn a the first a entries are less their products with wy; the others, wy and the columns V are as they were lent.
use mathlib.Core.Path.{refl}
use lib.ListN.{length-set}
use Rattle.base.proofs.Fills.{fillat_none}
use Rattle.base.proofs.Rows.{fillat_wrote}
use Rattle.columns.proofs.Laws.{side_step}
use native.Mathlib.Omega.{arith}
use Rattle.columns.proofs.remainders.sides_into.Goals as goal

pub loop-a-init : goal.loop-a-init
loop-a-init c = (omega arith, fillat_none _ _ _)

pub loop-a-preserved : goal.loop-a-preserved
loop-a-preserved c =
    let args = c.args in
    let loop = c.loop-a in
    let step = side_step args.p args.q args.unsolved args.wy args.beta args.t.now args.m.now c.requires.0 c.requires.1 c.requires.2 loop.a _ _ _ loop.m _ c.loop-a-test.true c.offset-o.ensures.0 refl refl c.dot-mixed.ensures loop.invariant.1 in
    (simp length-set (omega arith), step)

pub returns : goal.returns
returns c = fillat_wrote _ _ _ _ _ _ c.loop-a.invariant.1 (omega arith) (omega arith) c.requires.2
