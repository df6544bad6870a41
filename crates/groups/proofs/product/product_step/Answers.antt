-- `groups::product_step` meets its contract: the row is the order's, and before group g, what the groups before it told is points before what the rule says of the rest.
use mathlib.Core.Path.{refl}
use native.Mathlib.Omega.{arith}
use lib.ListN.{replicate}
use Rattle.base.specs.Number.{zero_f}
use Rattle.stored.specs.Stored.{sparse}
use Rattle.sums.proofs.Framed.{roomy_kept}
use Rattle.sums.proofs.Grids.{logs_room, logs_of}
use Rattle.groups.proofs.Looped.{effects_within, begun, room_left, goes_on, declines, ends}
use Rattle.groups.proofs.product.product_step.Goals as goal

pub log_weights-requires : goal.log_weights-requires
log_weights-requires c = logs_room _ _ (replicate 11 zero_f) c.gh_rule-rule.ensures refl

pub loop-g-init : goal.loop-g-init
loop-g-init c =
    let args = c.args in
    begun args.given.now.family args.given.now.link args.given.now.design.shape args.given.now.design.theta.now (sparse args.given.now.design.zt.starts.now args.given.now.design.zt.columns.now args.given.now.design.zt.values.now) args.given.now.y.now
    args.given.now.weights.now args.given.now.design.offset.now args.given.now.design.n args.given.now.design.p args.given.now.design.q args.order args.groups args.k args.phi _ _ _

pub overflow_add-points : goal.overflow_add-points
overflow_add-points c =
    let args = c.args in
    omega (
      arith,
      room_left args.given.now.family args.given.now.link args.given.now.design.shape args.given.now.design.theta.now (sparse args.given.now.design.zt.starts.now args.given.now.design.zt.columns.now args.given.now.design.zt.values.now)
          args.given.now.y.now args.given.now.weights.now args.given.now.design.offset.now args.given.now.design.n args.given.now.design.p args.given.now.design.q args.order args.groups args.k args.phi _ _ _
          c.requires.roomy.ready.effects c.requires.roomy.lent c.requires.grouped _ _ _ _ _ _ c.loop-g.invariant _ c.group-a.ensures.few
          c.loop-g-test.true,
    )

pub returns-in-Err : goal.returns-in-Err
returns-in-Err c =
    let args = c.args in
    declines args.given.now.family args.given.now.link args.given.now.design.shape args.given.now.design.theta.now (sparse args.given.now.design.zt.starts.now args.given.now.design.zt.columns.now args.given.now.design.zt.values.now) args.given.now.y.now
    args.given.now.weights.now args.given.now.design.offset.now args.given.now.design.n args.given.now.design.p args.given.now.design.q args.order args.groups args.k args.phi _ _ _
    c.requires.roomy.ready.effects c.requires.roomy.lent c.requires.grouped _ _ _ _ _ _ c.loop-g.invariant c.loop-g-test.true _ _ _ _
    c.group-a.ensures args.fit _ c.in-Err.is

pub loop-g-preserved : goal.loop-g-preserved
loop-g-preserved c =
    let args = c.args in
    goes_on args.given.now.family args.given.now.link args.given.now.design.shape args.given.now.design.theta.now (sparse args.given.now.design.zt.starts.now args.given.now.design.zt.columns.now args.given.now.design.zt.values.now) args.given.now.y.now
    args.given.now.weights.now args.given.now.design.offset.now args.given.now.design.n args.given.now.design.p args.given.now.design.q args.order args.groups args.k args.phi _ _ _
    c.requires.roomy.ready.effects c.requires.roomy.lent c.requires.grouped _ _ _ _ _ _ c.loop-g.invariant c.loop-g-test.true _ _ _ _
    c.group-a.ensures _ c.in-Ok.is

pub returns : goal.returns
returns c =
    let args = c.args in
    ends args.given.now.family args.given.now.link args.given.now.design.shape args.given.now.design.theta.now (sparse args.given.now.design.zt.starts.now args.given.now.design.zt.columns.now args.given.now.design.zt.values.now) args.given.now.y.now
    args.given.now.weights.now args.given.now.design.offset.now args.given.now.design.n args.given.now.design.p args.given.now.design.q args.order args.groups args.k args.phi _ _ _
    c.requires.roomy.ready.effects c.requires.roomy.lent c.requires.grouped _ _ _ _ _ _ c.loop-g.invariant args.fit c.loop-g-test.false

pub group-a-requires : goal.group-a-requires
group-a-requires c = record {
  roomy = roomy_kept c.requires.roomy c.loop-g.invariant.frame.rows_only.len c.loop-g.invariant.frame.matrices_only.len
      c.loop-g.invariant.frame.terms_only.len;
  k_bound = (
    effects_within c.args.given.now.design.q c.args.groups c.args.k c.loop-g.g c.args.order c.requires.grouped
        c.loop-g-test.true,
    c.requires.grouped.capped,
    logs_of _ _ _ c.gh_rule-rule.ensures refl _ c.log_weights.ensures,
  );
}
