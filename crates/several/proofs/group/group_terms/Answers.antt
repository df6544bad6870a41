-- `several::group_terms` meets its contract: before point i the first i terms are written, and the trial row has changed in the group's places only.
use Prim.Native.Nat.{◌-◌}
use native.Mathlib.Omega.{arith}
use Rattle.base.proofs.Rows.{only_none}
use Rattle.stored.specs.Stored.{sparse}
use Rattle.several.proofs.Trials.{room_kept, grid_kept}
use Rattle.several.proofs.Turns.{terms_none, terms_end, terms_length_lem, group_turn}
use Rattle.several.proofs.group.group_terms.Goals as goal

pub loop-i-init : goal.loop-i-init
loop-i-init c = (terms_none, only_none _ _ _)

pub group_point-term-requires : goal.group_point-term-requires
group_point-term-requires c =
    let a = c.args in
    let at = c.loop-i in
    record {
      room = room_kept a.given.now.design.shape a.given.now.design.theta.now a.given.now.design.zt.starts.now a.given.now.design.zt.columns.now a.given.now.design.zt.values.now a.given.now.y.now a.given.now.design.offset.now a.given.now.design.n a.given.now.design.q a.xbeta
          a.r.now at.r a.trial a.m.now at.m at.invariant.0.in_r.len at.invariant.0.in_m.len c.requires.room;
      grid = grid_kept a.given.now.design.q a.s a.k a.size a.l a.u a.trial a.nodes.now a.m.now at.m at.invariant.0.in_m.len c.requires.grid;
      size_in_bounds = c.requires.size_in_bounds.0;
    }

pub loop-i-preserved : goal.loop-i-preserved
loop-i-preserved c =
    let a = c.args in
    let at = c.loop-i in
    let p = group_turn a.given.now.family a.given.now.link a.given.now.design.shape a.given.now.design.theta.now (sparse a.given.now.design.zt.starts.now a.given.now.design.zt.columns.now a.given.now.design.zt.values.now) a.given.now.y.now
    a.given.now.weights.now a.given.now.design.offset.now a.given.now.design.n a.given.now.design.q a.xbeta a.r.now at.r c.requires.room.in_r a.size a.l a.u a.trial a.nodes.now
    a.node_logs.now a.inv_phi a.m.now at.m a.terms.now at.terms at.i a.s a.k c.requires.grid at.invariant.0 at.invariant.1 _ _ _
    c.group_point-term.ensures in
    p

pub returns : goal.returns
returns c = terms_end c.loop-i.invariant.0 c.loop-i.auto.i-end (omega arith)
