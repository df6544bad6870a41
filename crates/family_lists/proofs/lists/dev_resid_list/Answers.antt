-- `family_lists::dev_resid_list` meets its contract: before turn i the first i deviances are written.
use Rattle.std.proofs.Common.{sym, ◌∙◌}
use Rattle.base.proofs.Fills.{fill_none, fill_step}
use Rattle.family_lists.specs.Lists.{dev_resid_at}
use Rattle.family_lists.proofs.Listing.{agree_means}
use Rattle.family_lists.proofs.lists.dev_resid_list.Goals as goal

pub loop-i-init : goal.loop-i-init
loop-i-init c = (agree_means _ _ _ (sym c.lengths_agree.ensures ∙ c.if-not-lengths_agree.false), fill_none _ _)

pub loop-i-preserved : goal.loop-i-preserved
unfolding dev_resid_at
loop-i-preserved c =
    let a = c.args in
    let at = c.loop-i.invariant in
    (at.0, rw (c.dev_resid.ensures, c.weight_at.ensures) (fill_step (dev_resid_at a.family a.y.now a.mu.now a.wt.now) _ _ _ at.1))
