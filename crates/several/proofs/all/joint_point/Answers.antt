-- `several::joint_point` meets its contract: Σt² is formed from the trial row, every place of which is written, and the rest is what dd, log weight and delta say.
use mathlib.Core.Path.{refl}
use native.Mathlib.Omega.{arith}
use Rattle.base.proofs.Rows.{part_is}
use Rattle.stored.specs.Stored.{sparse}
use Rattle.agq.specs.Gained.{gain_in}
use Rattle.several.proofs.Terms.{joint_made}
use Rattle.several.proofs.all.joint_point.Goals as goal

pub returns : goal.returns
returns c =
    let a = c.args in
    joint_made
    (gain_in a.given.now.family a.given.now.link a.given.now.design.shape a.given.now.design.theta.now (sparse a.given.now.design.zt.starts.now a.given.now.design.zt.columns.now a.given.now.design.zt.values.now) a.given.now.y.now a.given.now.weights.now
    a.given.now.design.offset.now a.given.now.design.n a.given.now.design.q a.xbeta a.r.now) a.given.now.design.n a.given.now.design.q a.xbeta a.size a.l a.u a.trial a.point a.nodes.now
    a.node_logs.now a.inv_phi a.hats a.r.now _ a.m.now _ c.requires.grid _ c.trial_gain-dd.ensures _ _ _ _
    (part_is a.trial a.given.now.design.q _ _ refl) c.dot-squares.ensures c.log_weight-weight.ensures c.delta.ensures
