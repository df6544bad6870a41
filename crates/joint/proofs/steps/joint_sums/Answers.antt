-- `joint::joint_sums` meets its contract: every observation is marked, and û and the rule's nodes stand where the points look for them, so the terms are the rule's.
use mathlib.Core.Path.{◌∙◌, ap, refl}
use native.Mathlib.Omega.{arith}
use lib.ListN.{length, replicate}
use Rattle.base.specs.Number.{zero_f}
use Rattle.base.proofs.Fills.{length_fill}
use Rattle.stored.specs.Stored.{sparse}
use Rattle.sums.proofs.Framed.{room_of}
use Rattle.sums.proofs.Fronts.{rule_size, rule_nodes, rule_logs_long}
use Rattle.sums.proofs.Grids.{grid_of, logs_room, logs_of, count_few, count_in_lem, power_room}
use Rattle.joint.proofs.JointSummed.{joint_made}
use Rattle.joint.proofs.steps.joint_sums.Goals as goal

pub log_weights-requires : goal.log_weights-requires
log_weights-requires c = logs_room _ _ (replicate 11 zero_f) c.gh_rule-rule.ensures refl

pub power-count-requires : goal.power-count-requires
power-count-requires c = power_room _ _ c.args.given.now.design.q c.gh_rule-rule.ensures c.requires.q_bound

pub log_sum-requires : goal.log_sum-requires
log_sum-requires c =
    rw (ap length c.joint_terms.ensures.terms ∙ length_fill _ _ _)
    (count_in_lem c.args.order _ c.args.given.now.design.q 7000 _ c.args.t.now c.gh_rule-rule.ensures c.requires.q_bound c.power-count.ensures
    (omega arith) c.requires.roomy.lent.terms_long)

pub returns : goal.returns
returns c =
    let args = c.args in
    joint_made args.given.now.family args.given.now.link args.given.now.design.shape args.given.now.design.theta.now (sparse args.given.now.design.zt.starts.now args.given.now.design.zt.columns.now args.given.now.design.zt.values.now) args.given.now.y.now
    args.given.now.weights.now args.given.now.design.offset.now args.given.now.design.n args.given.now.design.p args.given.now.design.q args.order args.phi _ _ _ _ _ _ _ _ _ _ _ _ _ args.m.now args.m.now _ _
    _ _ c.requires.roomy.ready.effects c.requires.roomy.lent
    (count_few args.order _ args.given.now.design.q 7000 _ c.gh_rule-rule.ensures c.requires.q_bound c.power-count.ensures) c.mark_row-mark.ensures
    c.u_at-u.ensures c.trial_u_at-trial.ensures c.inverse_at-l.ensures c.xbeta_row-xbeta.ensures
    c.inverse_phi-inv.ensures (rule_size _ _ c.gh_rule-rule.ensures) (rule_nodes _ _ c.gh_rule-rule.ensures)
    (logs_of _ _ _ c.gh_rule-rule.ensures refl _ c.log_weights.ensures) c.log_sum.ensures c.power-count.ensures
    c.mark_all.ensures c.joint_terms.ensures

pub joint_terms-requires : goal.joint_terms-requires
joint_terms-requires c = record {
  room = room_of _ _ c.requires.roomy c.xbeta_row-xbeta.ensures c.trial_u_at-trial.ensures c.mark_all.ensures.only.len refl;
  grid = grid_of _ _ 0 c.args.given.now.design.q _ _ _ _ c.gh_rule-rule.ensures c.requires.roomy.lent refl (omega arith) c.inverse_at-l.ensures
      c.u_at-u.ensures c.trial_u_at-trial.ensures;
  size_in_bounds = (
    rule_logs_long _ _ c.gh_rule-rule.ensures (logs_of _ _ _ c.gh_rule-rule.ensures refl _ c.log_weights.ensures),
    count_in_lem c.args.order _ c.args.given.now.design.q 7000 _ c.args.t.now c.gh_rule-rule.ensures c.requires.q_bound
        c.power-count.ensures (omega arith) c.requires.roomy.lent.terms_long,
  );
}
