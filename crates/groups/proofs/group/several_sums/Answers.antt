-- `groups::several_sums` meets its contract: marks, û and the rule's nodes stand where the points look for them, so the terms are the rule's.
use mathlib.Core.Path.{◌∙◌, ap}
use native.Mathlib.Omega.{arith}
use lib.ListN.{length}
use Rattle.base.proofs.Fills.{length_fillat, length_fill}
use Rattle.stored.specs.Stored.{sparse}
use Rattle.sums.proofs.Framed.{room_of}
use Rattle.sums.proofs.Fronts.{rule_size, rule_nodes, rule_logs_long}
use Rattle.sums.proofs.Grids.{grid_of, count_few, count_in_lem, power_room}
use Rattle.groups.proofs.SeveralSummed.{several_made}
use Rattle.groups.proofs.group.several_sums.Goals as goal

pub power-count-requires : goal.power-count-requires
power-count-requires c = power_room _ _ c.args.k c.gh_rule-rule.ensures (omega (arith, c.requires.k_bound.1))

pub log_sum-requires : goal.log_sum-requires
log_sum-requires c =
    rw (ap length c.group_terms.ensures.terms ∙ length_fill _ _ _)
    (count_in_lem c.args.order _ c.args.k 400 _ c.args.t.now c.gh_rule-rule.ensures c.requires.k_bound.1 c.power-count.ensures
    (omega arith) c.requires.roomy.lent.terms_long)

pub returns : goal.returns
returns c =
    let args = c.args in
    several_made args.given.now.family args.given.now.link args.given.now.design.shape args.given.now.design.theta.now (sparse args.given.now.design.zt.starts.now args.given.now.design.zt.columns.now args.given.now.design.zt.values.now)
    args.given.now.y.now args.given.now.weights.now args.given.now.design.offset.now args.given.now.design.n args.given.now.design.p args.given.now.design.q args.order args.phi _ _ _ _ _ _ _ _ _ _ _ _ _ _ _ _ _ _ _
    c.requires.roomy.ready.effects c.requires.roomy.lent
    (count_few args.order _ args.k 7000 _ c.gh_rule-rule.ensures (omega (arith, c.requires.k_bound.1)) c.power-count.ensures)
    c.mark_row-mark.ensures c.u_at-u.ensures c.trial_u_at-trial.ensures c.inverse_at-l.ensures c.xbeta_row-xbeta.ensures
    c.inverse_phi-inv.ensures (rule_size _ _ c.gh_rule-rule.ensures) (rule_nodes _ _ c.gh_rule-rule.ensures) c.requires.k_bound.2
    c.log_sum.ensures args.s args.k c.requires.k_bound.0 c.power-count.ensures c.mark_group.ensures c.copy_row.ensures
    c.group_terms.ensures

pub group_terms-requires : goal.group_terms-requires
group_terms-requires c =
    record {
      room = room_of _ _ c.requires.roomy c.xbeta_row-xbeta.ensures c.trial_u_at-trial.ensures c.mark_group.ensures.only.len
          (ap length c.copy_row.ensures ∙ length_fillat _ _ _ _);
      grid = grid_of _ _ c.args.s c.args.k _ _ _ _ c.gh_rule-rule.ensures c.requires.roomy.lent
          (ap length c.copy_row.ensures ∙ length_fillat _ _ _ _) c.requires.k_bound.0 c.inverse_at-l.ensures c.u_at-u.ensures
          c.trial_u_at-trial.ensures;
      size_in_bounds = (
        rule_logs_long _ _ c.gh_rule-rule.ensures c.requires.k_bound.2,
        count_in_lem c.args.order _ c.args.k 400 _ c.args.t.now c.gh_rule-rule.ensures c.requires.k_bound.1
            c.power-count.ensures (omega arith) c.requires.roomy.lent.terms_long,
      );
    }
