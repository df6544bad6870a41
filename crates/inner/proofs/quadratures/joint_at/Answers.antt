-- `inner::joint_at` meets its contract: the step is made with the order that the rule chooses, after Xβ stands in its row.
use mathlib.Core.Path.{sym, ◌∙◌}
use Rattle.quadrature.proofs.OrderFacts.{joint_within}
use Rattle.inner.proofs.Stepped.{joint_declined, joint_made}
use Rattle.inner.proofs.quadratures.joint_at.Goals as goal

pub joint_step-requires-clause-q_bound : goal.joint_step-requires-clause-q_bound
joint_step-requires-clause-q_bound c = (joint_within c.args.wish c.args.given.now.design.q _ (sym c.resolve_gh_order_joint-choice.ensures ∙ c.in-Ok.is)).1

pub returns-in-Err : goal.returns-in-Err
returns-in-Err c =
    let args = c.args in
    let g = args.given.now in
    let d = g.design in
    joint_declined g.family g.link d.shape d.theta.now _ g.y.now g.weights.now d.offset.now d.n d.p
    d.q d.x.now args.wish args.phi args.fit _ c.requires.ready.effects
    (sym c.resolve_gh_order_joint-choice.ensures ∙ c.in-Err.is) _ _ _ _ c.declined.ensures

pub returns-in-Ok : goal.returns-in-Ok
returns-in-Ok c =
    let args = c.args in
    let g = args.given.now in
    let d = g.design in
    joint_made g.family g.link d.shape d.theta.now _ g.y.now g.weights.now d.offset.now d.n d.p
    d.q d.x.now args.wish args.phi args.fit c.requires.ready.effects _ args.r.now _ _ args.m.now _ args.t.now _ _
    c.requires.lent.rows_long c.fixed_row.ensures (sym c.resolve_gh_order_joint-choice.ensures ∙ c.in-Ok.is)
    c.joint_step.ensures
