-- `inner::quadrature_at` meets its contract: one block is the product rule's, several are the joint rule's.
use borrow.Author.Tests.{eq-eqb, ne_eqb}
use Rattle.inner.proofs.Stepped.{groups_all, by_product, by_joint}
use Rattle.inner.proofs.quadratures.quadrature_at.Goals as goal

pub product_at-requires-clause-k_value : goal.product_at-requires-clause-k_value
product_at-requires-clause-k_value c = groups_all c.args.given.now.design.shape c.args.given.now.design.q (eq-eqb _ _ c.if-design-eq1.true) c.requires.ready.effects

pub returns-then-design-eq1 : goal.returns-then-design-eq1
returns-then-design-eq1 c =
    let args = c.args in
    let g = args.given.now in
    let d = g.design in
    by_product g.family g.link d.shape d.theta.now _ g.y.now g.weights.now d.offset.now d.n d.p d.q
    d.x.now args.wish args.phi args.fit _ _ _ _ _ _ _ (eq-eqb _ _ c.if-design-eq1.true) c.product_at.ensures

pub returns : goal.returns
returns c =
    let args = c.args in
    let g = args.given.now in
    let d = g.design in
    by_joint g.family g.link d.shape d.theta.now _ g.y.now g.weights.now d.offset.now d.n d.p d.q
    d.x.now args.wish args.phi args.fit _ _ _ _ _ _ _ (ne_eqb _ _ c.if-design-eq1.false) c.joint_at.ensures
