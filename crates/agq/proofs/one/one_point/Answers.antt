-- `agq::one_point` meets its contract: one place of the trial effects is set, and the rest is what the point's gain and delta say.
use Rattle.stored.specs.Stored.{sparse}
use Rattle.agq.proofs.Ones.{one_made}
use Rattle.agq.proofs.one.one_point.Goals as goal

pub returns : goal.returns
returns c =
    let a = c.args in
    one_made a.given.now.family a.given.now.link a.given.now.design.shape a.given.now.design.theta.now (sparse a.given.now.design.zt.starts.now a.given.now.design.zt.columns.now a.given.now.design.zt.values.now) a.given.now.y.now a.given.now.weights.now
    a.given.now.design.offset.now a.given.now.design.n a.given.now.design.q a.xbeta a.g a.sigma a.node a.log_weight a.inv_phi a.u a.trial a.r.now _ a.m.now _
    c.requires.g_lt_q.0 c.requires.g_lt_q.1 c.requires.room.in_m _ _ c.point_gain-dd.ensures c.delta.ensures
