-- `agq::one_terms` meets its contract: before node i the first i terms are written, and what a point is made of has not changed.
use lib.ListN.{length-set}
use Rattle.base.specs.Rows.{row}
use Rattle.base.proofs.Fills.{fill_none, fill_step}
use Rattle.base.proofs.Rows.{only_none}
use Rattle.stored.specs.Stored.{sparse}
use Rattle.agq.specs.One.{one_term_at_node}
use Rattle.agq.proofs.OneTurns.{turn_term, turn_m, turn_r, turn_trial}
use native.Mathlib.Omega.{arith}
use Rattle.agq.proofs.one.one_terms.Goals as goal

pub loop-i-init : goal.loop-i-init
loop-i-init c = (omega arith, fill_none _ _, only_none _ _ _, only_none _ _ _, only_none _ _ _)

pub loop-i-preserved : goal.loop-i-preserved
loop-i-preserved c =
    let a = c.args in
    let l = c.loop-i in
    let p = c.one_point-term.ensures in (
      simp length-set l.invariant.0,
      rw (turn_term a.given.now.family a.given.now.link a.given.now.design.shape a.given.now.design.theta.now (sparse a.given.now.design.zt.starts.now a.given.now.design.zt.columns.now a.given.now.design.zt.values.now) a.given.now.y.now
          a.given.now.weights.now a.given.now.design.offset.now a.given.now.design.n a.given.now.design.q a.xbeta a.g a.sigma a.inv_phi a.u a.trial a.nodes.now a.node_logs.now
          a.r.now l.r a.m.now l.m c.requires.g_lt_q.0 c.requires.g_lt_q.1 c.requires.room.in_m c.requires.room.in_r l.invariant.2 l.invariant.3 l.invariant.4 l.i _ _ _ p)
          (fill_step
          (one_term_at_node a.given.now.family a.given.now.link a.given.now.design.shape a.given.now.design.theta.now (sparse a.given.now.design.zt.starts.now a.given.now.design.zt.columns.now a.given.now.design.zt.values.now) a.given.now.y.now
          a.given.now.weights.now a.given.now.design.offset.now a.given.now.design.n a.given.now.design.q a.xbeta a.g a.sigma a.inv_phi (row a.u a.given.now.design.q a.m.now) a.r.now
          (row a.trial a.given.now.design.q a.m.now) a.nodes.now a.node_logs.now) a.terms.now l.i l.terms l.invariant.1),
      turn_m a.given.now.family a.given.now.link a.given.now.design.shape a.given.now.design.theta.now (sparse a.given.now.design.zt.starts.now a.given.now.design.zt.columns.now a.given.now.design.zt.values.now) a.given.now.y.now a.given.now.weights.now
          a.given.now.design.offset.now a.given.now.design.n a.given.now.design.q a.xbeta a.g a.sigma a.inv_phi a.u a.trial a.nodes.now a.node_logs.now a.r.now l.r
          a.m.now l.m c.requires.g_lt_q.0 c.requires.g_lt_q.1 c.requires.room.in_m c.requires.room.in_r l.invariant.2 l.invariant.3 l.invariant.4 l.i _ _ _ p,
      turn_r a.given.now.family a.given.now.link a.given.now.design.shape a.given.now.design.theta.now (sparse a.given.now.design.zt.starts.now a.given.now.design.zt.columns.now a.given.now.design.zt.values.now) a.given.now.y.now a.given.now.weights.now
          a.given.now.design.offset.now a.given.now.design.n a.given.now.design.q a.xbeta a.g a.sigma a.inv_phi a.u a.trial a.nodes.now a.node_logs.now a.r.now l.r
          a.m.now l.m c.requires.g_lt_q.0 c.requires.g_lt_q.1 c.requires.room.in_m c.requires.room.in_r l.invariant.2 l.invariant.3 l.invariant.4 l.i _ _ _ p,
      turn_trial a.given.now.family a.given.now.link a.given.now.design.shape a.given.now.design.theta.now (sparse a.given.now.design.zt.starts.now a.given.now.design.zt.columns.now a.given.now.design.zt.values.now) a.given.now.y.now a.given.now.weights.now
          a.given.now.design.offset.now a.given.now.design.n a.given.now.design.q a.xbeta a.g a.sigma a.inv_phi a.u a.trial a.nodes.now a.node_logs.now a.r.now l.r
          a.m.now l.m c.requires.g_lt_q.0 c.requires.g_lt_q.1 c.requires.room.in_m c.requires.room.in_r l.invariant.2 l.invariant.3 l.invariant.4 l.i _ _ _ p,
    )
