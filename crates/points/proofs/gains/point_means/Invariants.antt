-- `points::point_means` meets its contract: before turn i the first i entries of the row are formed, and the entry that is read next is as it was lent.
use mathlib.Core.Path.{◌≡◌}
use lib.ListN.{length}
use Rattle.base.specs.List.{fill_at}
use Rattle.base.specs.Rows.{row}
use Rattle.points.specs.Gain.{mean_over}
use Rattle.points.proofs.gains.point_means.Given as goal

abbrev pub invariant-loop-i : goal.invariant-loop-i
invariant-loop-i l = (length l.r ≡ length l.initial.r) × (l.r ≡ fill_at l.zb l.i (mean_over l.link l.offset (row l.xbeta l.n l.initial.r) (row l.zb l.n l.initial.r) (row l.mark l.n l.initial.r)) l.initial.r)
