-- `points::mean_over` meets its contract: the mark's test is the definition's, and at a marked observation the operations are those of its mean.
use Rattle.points.proofs.Entered.{mean_skipped, mean_taken}
use native.Mathlib.Omega.{arith}
use Rattle.points.proofs.gains.mean_over.Goals as goal

pub returns-then-r-mark : goal.returns-then-r-mark
returns-then-r-mark c =
    let a = c.args in
    mean_taken a.link a.offset.now a.n a.xbeta a.zb a.mark a.r.now a.i (omega (arith, c.requires.0)) c.requires.3 c.requires.4 _ _ c.requires.2 c.if-r-mark.true c.plus_offset.ensures c.link_inv.ensures

pub returns-else-r-mark : goal.returns-else-r-mark
returns-else-r-mark c =
    let a = c.args in
    mean_skipped a.link a.offset.now a.n a.xbeta a.zb a.mark a.r.now a.i (omega (arith, c.requires.0)) c.requires.3 c.requires.4 c.if-r-mark.false
