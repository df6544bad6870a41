-- `columns::weighted_rows` meets its contract: before turn g the first g rows are written; a row's entries are what it stores.
use mathlib.Core.Path.{refl}
use Rattle.base.proofs.Fills.{grid_none}
use Rattle.stored.specs.Lent.{sparse_in}
use Rattle.columns.proofs.WeightedSums.{sides_step}
use native.Mathlib.Omega.{arith}
use Rattle.columns.proofs.weighted.weighted_rows.Goals as goal

pub loop-g-init : goal.loop-g-init
loop-g-init c = grid_none _ _ _

pub loop-g-preserved : goal.loop-g-preserved
loop-g-preserved c =
    let a = c.args in
    let loop = c.loop-g in
    let row-sides = c.row_sides in
    sides_step (sparse_in a.zt.now) a.q a.n a.x.now a.p a.w.now loop.g _ _ a.out.now loop.out
    row-sides.new.out c.requires.rows c.loop-g-test.true c.offset-o.ensures.0 refl (omega arith)
    row-sides.auto.out loop.invariant row-sides.ensures
