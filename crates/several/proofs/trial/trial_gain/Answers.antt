-- `several::trial_gain` meets its contract: the nodes and then the moved effects are written behind û, and the point's gain is theirs.
use mathlib.Core.Path.{refl, ◌∙◌}
use native.Mathlib.Omega.{arith}
use Rattle.stored.specs.Stored.{sparse}
use Rattle.several.proofs.Trials.{room_kept, move_asked, trial_made}
use Rattle.several.proofs.trial.trial_gain.Goals as goal

pub returns : goal.returns
returns c =
    let a = c.args in
    trial_made a.given.now.design.q a.s a.k a.size a.l a.u a.trial a.point a.nodes.now a.m.now _ _ c.requires.grid
    c.point_nodes.ensures c.move_effects.ensures a.given.now.family a.given.now.link a.given.now.design.shape a.given.now.design.theta.now
    (sparse a.given.now.design.zt.starts.now a.given.now.design.zt.columns.now a.given.now.design.zt.values.now) a.given.now.y.now a.given.now.weights.now a.given.now.design.offset.now a.given.now.design.n a.xbeta a.r.now _ _ _
    c.point_gain.ensures

pub move_effects-requires-clause-apart : goal.move_effects-requires-clause-apart
move_effects-requires-clause-apart c =
    let a = c.args in
    let m = move_asked a.given.now.design.q a.s a.k a.size a.l a.u a.trial a.point a.nodes.now a.m.now _ c.requires.grid c.point_nodes.ensures in
    m.1
