-- `iteration::raw_into` meets its contract: each call reads what the one before it left.
use Rattle.iteration.proofs.RawMade.{raw_row_wrote, raw_laid}
use Rattle.layout.proofs.Inside.{raw_in}
use native.Mathlib.Omega.{arith}
use mathlib.Core.Path.{refl}
use Rattle.iteration.proofs.raws.raw_into.Goals as goal

pub returns : goal.returns
returns c =
    let args = c.args in
    let d = raw_row_wrote args.design.now.n args.design.now.p c.raw_row-raw.result _ c.beta_at-beta.result _ args.design.now.offset.now args.design.now.x.now _ _ _ refl
    (omega (arith, raw_in c.requires.work_room.sizes args.r.now c.raw_row-raw.ensures c.requires.work_room.rows_long)) refl
    c.raw_row.auto.out c.raw_row.ensures in
    raw_laid args.design.now.n args.design.now.p args.design.now.q args.design.now.shape args.design.now.theta.now args.design.now.offset.now args.design.now.x.now _ _ _ _ _ _ _ _ c.requires.ready.effects
    c.requires.work_room _ _ _ _ _ _ _ c.wy_at.ensures c.solved_at.ensures c.beta_at-beta.ensures c.spare_at-spare.ensures
    c.u_at-u.ensures c.b_at-b.ensures c.raw_row-raw.ensures c.solve_u.ensures c.effects_into.ensures
    c.zb_into.ensures d
