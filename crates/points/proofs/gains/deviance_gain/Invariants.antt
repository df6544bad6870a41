-- `points::deviance_gain` meets its contract: before turn i the sum is that of the marked observations below i.
use mathlib.Core.Path.{◌≡◌}
use Rattle.base.specs.Sum.{sum_where}
use Rattle.base.specs.Rows.{row}
use Rattle.points.specs.Gain.{marked, entered}
use Rattle.points.proofs.gains.deviance_gain.Given as goal

abbrev pub invariant-loop-i : goal.invariant-loop-i
invariant-loop-i l = (l.sum ≡ sum_where l.i (marked (row l.mark l.n l.r)) (entered l.family l.y l.weights (row l.means l.n l.r) (row l.devs l.n l.r)))
