-- `iteration::right_sides` meets its contract: wy is solved with the factor, and the columns leave it as it is.
use mathlib.Core.Path.{refl}
use Rattle.iteration.proofs.SidesMade.{sides_made}
use Rattle.iteration.proofs.sides.right_sides.Goals as goal

pub returns : goal.returns
returns c =
    let args = c.args in
    sides_made args.design.now.n args.design.now.p args.design.now.q c.weighted_row-weighted.result _ c.wy_at-wy.result args.design.now.shape args.design.now.theta.now args.design.now.x.now _ _ _
    _ _ _ _ c.requires.ready.effects c.requires.work_room c.weighted_row-weighted.ensures refl c.wy_at-wy.ensures c.solve_side.ensures
    c.normal_columns.ensures
