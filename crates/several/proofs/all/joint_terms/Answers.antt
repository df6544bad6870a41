-- `several::joint_terms` meets its contract: before point i the first i terms are written, and û, whose squares are summed once, stands as it stood.
use mathlib.Core.Path.{refl}
use Prim.Native.Nat.{◌-◌}
use native.Mathlib.Omega.{arith}
use Rattle.base.proofs.Rows.{part_is}
use Rattle.stored.specs.Stored.{sparse}
use Rattle.several.proofs.Trials.{room_kept, grid_kept}
use Rattle.several.proofs.Turns.{terms_none, terms_end, terms_length_lem, joint_turn, hats_of}
use Rattle.several.proofs.all.joint_terms.Goals as goal

pub loop-i-init : goal.loop-i-init
loop-i-init c =
    let a = c.args in
    (hats_of a.u a.given.now.design.q a.m.now _ _ (part_is a.u a.given.now.design.q _ _ refl) c.dot-hats.ensures, terms_none)

pub loop-i-preserved : goal.loop-i-preserved
loop-i-preserved c =
    let a = c.args in
    let at = c.loop-i in (
      at.invariant.0,
      joint_turn a.given.now.family a.given.now.link a.given.now.design.shape a.given.now.design.theta.now (sparse a.given.now.design.zt.starts.now a.given.now.design.zt.columns.now a.given.now.design.zt.values.now) a.given.now.y.now a.given.now.weights.now
          a.given.now.design.offset.now a.given.now.design.n a.given.now.design.q a.xbeta a.r.now at.r c.requires.room.in_r a.size a.l a.u a.trial a.nodes.now
          a.node_logs.now a.inv_phi a.m.now at.m a.terms.now at.terms at.i _ c.requires.grid at.invariant.0 at.invariant.1 _ _ _
          c.joint_point-term.ensures,
    )
