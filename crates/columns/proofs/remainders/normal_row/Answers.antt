-- `columns::normal_row` meets its contract: before turn b the first b entries of the row are written, and the columns V are as they were lent.
use mathlib.Core.Path.{refl}
use lib.ListN.{length-set}
use Rattle.base.proofs.Fills.{fillat_none}
use Rattle.base.proofs.Rows.{fillat_wrote}
use Rattle.columns.proofs.Laws.{mixed_step}
use native.Mathlib.Omega.{arith}
use Rattle.columns.proofs.remainders.normal_row.Goals as goal

pub loop-b-init : goal.loop-b-init
loop-b-init c = (omega arith, fillat_none _ _ _)

pub loop-b-preserved : goal.loop-b-preserved
loop-b-preserved c =
    let args = c.args in
    let loop = c.loop-b in
    let step = mixed_step args.c.now args.solved.now args.p args.q args.a args.unsolved args.normal args.t.now c.requires.2 c.requires.3 c.requires.4 _ _ _ _ loop.b loop.t _ c.offset-d.ensures.0 c.offset-v.ensures.0 refl c.offset-o.ensures.0 c.loop-b-test.true c.dot_from-mixed.ensures loop.invariant.1 in
    (simp length-set (omega arith), step)

pub returns-2 : goal.returns-2
returns-2 c =
    let args = c.args in
    let loop = c.loop-b in
    let step = mixed_step args.c.now args.solved.now args.p args.q args.a args.unsolved args.normal args.t.now c.requires.2 c.requires.3 c.requires.4 _ _ _ _ loop.b loop.t _ c.offset-d.ensures.0 c.offset-v.ensures.0 refl c.offset-o.ensures.0 c.loop-b-test.true c.dot_from-mixed.ensures loop.invariant.1 in
    rw (← c.offset-d.ensures.0)
    (fillat_wrote _ _ _ _ _ _ step (omega arith) (omega arith) (omega (arith, c.offset-d.ensures.1, c.requires.2, c.requires.4)))
