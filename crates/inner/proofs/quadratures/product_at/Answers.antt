-- `inner::product_at` meets its contract: the step is made with the order that the rule chooses, after Xβ stands in its row.
use mathlib.Core.Path.{sym, ◌∙◌}
use Rattle.inner.proofs.Stepped.{grouped, product_declined, product_made}
use Rattle.inner.proofs.quadratures.product_at.Goals as goal

pub product_step-requires-clause-grouped : goal.product_step-requires-clause-grouped
product_step-requires-clause-grouped c = grouped c.args.wish c.args.given.now.design.q c.args.groups c.args.k _ c.requires.k_value
    (sym c.resolve_gh_order_product-choice.ensures ∙ c.in-Ok.is)

pub returns-in-Err : goal.returns-in-Err
returns-in-Err c =
    let args = c.args in
    let g = args.given.now in
    let d = g.design in
    product_declined g.family g.link d.shape d.theta.now _ g.y.now g.weights.now d.offset.now d.n d.p
    d.q d.x.now args.wish args.phi args.fit args.groups args.k _
    (sym c.resolve_gh_order_product-choice.ensures ∙ c.in-Err.is) _ _ _ _ c.declined.ensures

pub returns-in-Ok : goal.returns-in-Ok
returns-in-Ok c =
    let args = c.args in
    let g = args.given.now in
    let d = g.design in
    product_made g.family g.link d.shape d.theta.now _ g.y.now g.weights.now d.offset.now d.n d.p
    d.q d.x.now args.wish args.phi args.fit c.requires.asked.ready.effects _ args.r.now _ _ args.m.now _ args.t.now _ _
    c.requires.asked.lent.rows_long c.fixed_row.ensures args.groups args.k
    (sym c.resolve_gh_order_product-choice.ensures ∙ c.in-Ok.is) c.product_step.ensures
