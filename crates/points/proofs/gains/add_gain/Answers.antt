-- `points::add_gain` meets its contract: the mark's test is the definition's, and at a marked observation the operations are those of `entered`.
use Rattle.points.proofs.Entered.{gain_skipped, gain_taken}
use native.Mathlib.Omega.{arith}
use Rattle.points.proofs.gains.add_gain.Goals as goal

pub returns-then-r-mark : goal.returns-then-r-mark
returns-then-r-mark c =
    let a = c.args in
    gain_taken a.family a.y.now a.weights.now a.n a.devs a.means a.mark a.r.now a.i a.sum (omega (arith, c.requires.0)) c.requires.4 _ _ c.requires.2 c.requires.3 c.if-r-mark.true c.weight_at.ensures c.dev_resid-dev.ensures

pub returns-else-r-mark : goal.returns-else-r-mark
returns-else-r-mark c =
    let a = c.args in
    gain_skipped a.family a.y.now a.weights.now a.n a.devs a.means a.mark a.r.now a.i a.sum (omega (arith, c.requires.0)) c.requires.4 c.if-r-mark.false
