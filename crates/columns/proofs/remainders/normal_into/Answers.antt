-- `columns::normal_into` meets its contract: before turn a the rows below a are written, and the columns V are as they were lent.
use mathlib.Core.Path.{refl}
use Rattle.columns.proofs.Laws.{normal_more}
use Rattle.columns.proofs.remainders.normal_into.Goals as goal

pub loop-a-preserved : goal.loop-a-preserved
loop-a-preserved c =
    let args = c.args in
    let loop = c.loop-a in
    normal_more loop.a args.p args.q args.crossed args.solved args.unsolved args.normal _ _ args.m.now args.t.now loop.t c.normal_row.new.t c.loop-a-test.true c.requires.2 c.requires.3 refl refl loop.invariant c.normal_row.ensures
