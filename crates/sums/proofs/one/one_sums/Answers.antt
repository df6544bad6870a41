-- `sums::one_sums` meets its contract: marks, û and the rule's nodes stand where the points look for them, so the terms are the rule's.
use mathlib.Core.Path.{◌∙◌, ap}
use lib.ListN.{length}
use Rattle.base.proofs.Fills.{length_fill}
use Rattle.stored.specs.Stored.{sparse}
use Rattle.sums.proofs.Framed.{hats_before}
use Rattle.sums.proofs.Fronts.{rule_size, rule_nodes, rule_nodes_long, rule_logs_long, rule_in}
use Rattle.sums.proofs.OneSummed.{one_made}
use Rattle.sums.proofs.one.one_sums.Goals as goal

pub log_sum-requires : goal.log_sum-requires
log_sum-requires c =
    rw (ap length c.one_terms.ensures.terms ∙ length_fill _ _ _)
    (rule_in _ _ c.gh_rule-rule.ensures c.args.t.now c.requires.roomy.lent.terms_long)

pub returns : goal.returns
returns c =
    let args = c.args in
    one_made args.given.now.family args.given.now.link args.given.now.design.shape args.given.now.design.theta.now (sparse args.given.now.design.zt.starts.now args.given.now.design.zt.columns.now args.given.now.design.zt.values.now) args.given.now.y.now
    args.given.now.weights.now args.given.now.design.offset.now args.given.now.design.n args.given.now.design.p args.given.now.design.q args.order args.g args.sigma args.phi _ _ _ _ _ _ _ _ _ _ _ _ _ _ _ _ _
    c.requires.roomy.ready.effects c.requires.roomy.lent c.requires.g_lt_q.0 c.mark_row-mark.ensures c.mark_group.ensures
    c.u_at-u.ensures c.trial_u_at-trial.ensures c.copy_row.ensures c.xbeta_row-xbeta.ensures c.inverse_phi-inv.ensures
    (rule_size _ _ c.gh_rule-rule.ensures) (rule_nodes _ _ c.gh_rule-rule.ensures) c.requires.g_lt_q.1 c.one_terms.ensures
    c.log_sum.ensures

pub one_terms-requires-clause-g_lt_q : goal.one_terms-requires-clause-g_lt_q
one_terms-requires-clause-g_lt_q c = (
  c.requires.g_lt_q.0,
  hats_before c.args.given.now.design.p c.args.given.now.design.q _ _ c.u_at-u.ensures c.trial_u_at-trial.ensures,
  rule_nodes_long _ _ c.gh_rule-rule.ensures,
  rule_logs_long _ _ c.gh_rule-rule.ensures c.requires.g_lt_q.1,
  rule_in _ _ c.gh_rule-rule.ensures c.args.t.now c.requires.roomy.lent.terms_long,
)
