-- `groups::product_step` meets its contract: the row is the order's, and before group g, what the groups before it told is points before what the rule says of the rest.
use Rattle.stored.specs.Stored.{sparse}
use Rattle.groups.proofs.Looped.{Going}
use Rattle.groups.proofs.product.product_step.Given as goal

abbrev pub invariant-loop-g : goal.invariant-loop-g
invariant-loop-g l = Going l.given.family l.given.link l.given.design.shape l.given.design.theta.now (sparse l.given.design.zt.starts.now l.given.design.zt.columns.now l.given.design.zt.values.now) l.given.y.now l.given.weights.now l.given.design.offset.now l.given.design.n l.given.design.p l.given.design.q l.order l.groups l.k l.phi l.initial.r l.initial.m l.initial.t l.r l.m l.t l.total l.points l.g
