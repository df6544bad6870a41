-- `points::point_means` meets its contract: before turn i the first i entries of the row are formed, and the entry that is read next is as it was lent.
use lib.ListN.{length-set}
use Rattle.base.proofs.Rows.{fillat_wrote}
use Rattle.points.proofs.Entered.{means_step}
use native.Mathlib.Omega.{arith}
use Rattle.base.proofs.Loops.{loops}
use borrow.Author.Rules.{rules}
use Rattle.points.proofs.gains.point_means.Goals as goal

pub loop-i-init : goal.loop-i-init
loop-i-init c = search (rules, loops)

pub loop-i-preserved : goal.loop-i-preserved
loop-i-preserved c =
    let a = c.args in (simp length-set (omega arith), means_step a.link a.offset.now a.n a.xbeta a.zb a.mark _ a.r.now _ _ c.requires.1 c.requires.2 c.requires.3 c.requires.4 c.requires.5 c.loop-i-test.true c.loop-i.invariant.1 c.mean_over-mean.ensures)

pub returns : goal.returns
returns c = fillat_wrote _ _ _ _ _ _ c.loop-i.invariant.1 (omega arith) (omega arith) (omega arith)
