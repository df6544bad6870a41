-- `joint::joint_step` meets its contract: the scale of A is the rule's, and so is the sum.
use Rattle.stored.specs.Stored.{sparse}
use Rattle.joint.proofs.JointSummed.{joint_unscaled, joint_scaled}
use Rattle.joint.proofs.steps.joint_step.Goals as goal

pub returns-in-Err : goal.returns-in-Err
returns-in-Err c =
    let args = c.args in
    joint_unscaled args.given.now.family args.given.now.link args.given.now.design.shape args.given.now.design.theta.now (sparse args.given.now.design.zt.starts.now args.given.now.design.zt.columns.now args.given.now.design.zt.values.now)
    args.given.now.y.now args.given.now.weights.now args.given.now.design.offset.now args.given.now.design.n args.given.now.design.p args.given.now.design.q args.order args.phi args.fit _ _ _ _ _ _
    c.requires.roomy.ready.effects c.requires.roomy.lent c.block_scale.ensures _ c.in-Err.is

pub returns-in-Ok : goal.returns-in-Ok
returns-in-Ok c =
    let args = c.args in
    joint_scaled args.given.now.family args.given.now.link args.given.now.design.shape args.given.now.design.theta.now (sparse args.given.now.design.zt.starts.now args.given.now.design.zt.columns.now args.given.now.design.zt.values.now)
    args.given.now.y.now args.given.now.weights.now args.given.now.design.offset.now args.given.now.design.n args.given.now.design.p args.given.now.design.q args.order args.phi args.fit _ _ _ _ _ _
    c.requires.roomy.ready.effects c.requires.roomy.lent c.block_scale.ensures _ _ _ _ _ c.requires.q_bound c.in-Ok.is
    c.joint_sums-a.ensures c.joint_answer.ensures
