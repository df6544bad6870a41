-- `sums::one_group` meets its contract: the test of the diagonal entry is the rule's, and so is the sum.
use Rattle.stored.specs.Stored.{sparse}
use Rattle.sums.proofs.OneSummed.{group_declined, group_summed}
use Rattle.sums.proofs.one.one_group.Goals as goal

pub returns-in-Err : goal.returns-in-Err
returns-in-Err c =
    let args = c.args in
    group_declined args.given.now.family args.given.now.link args.given.now.design.shape args.given.now.design.theta.now (sparse args.given.now.design.zt.starts.now args.given.now.design.zt.columns.now args.given.now.design.zt.values.now)
    args.given.now.y.now args.given.now.weights.now args.given.now.design.offset.now args.given.now.design.n args.given.now.design.p args.given.now.design.q args.order args.g args.phi _ _ _ _
    c.requires.roomy.ready.effects c.one_sigma.ensures _ c.in-Err.is

pub returns-in-Ok : goal.returns-in-Ok
returns-in-Ok c =
    let args = c.args in
    group_summed args.given.now.family args.given.now.link args.given.now.design.shape args.given.now.design.theta.now (sparse args.given.now.design.zt.starts.now args.given.now.design.zt.columns.now args.given.now.design.zt.values.now)
    args.given.now.y.now args.given.now.weights.now args.given.now.design.offset.now args.given.now.design.n args.given.now.design.p args.given.now.design.q args.order args.g args.phi _ _ _ _
    c.requires.roomy.ready.effects c.one_sigma.ensures _ _ _ _ _ c.in-Ok.is c.one_sums.ensures
