-- `working::working_rows` meets its contract: before turn i the first i places of both rows are written, the row of z over that of w.
use mathlib.Core.Path.{refl}
use Rattle.base.specs.List.{fill_at}
use Rattle.base.proofs.Fills.{fillat_both}
use Rattle.rule.specs.Working.{working_weight_at, working_response_at}
use native.Mathlib.Omega.{arith}
use Rattle.working.proofs.weights.working_rows.Goals as goal

pub loop-i-init : goal.loop-i-init
unfolding fill_at
loop-i-init c = refl

pub loop-i-preserved : goal.loop-i-preserved
unfolding working_weight_at working_response_at
loop-i-preserved c =
    let a = c.args in
    fillat_both a.w_at a.z_at (working_weight_at a.family a.link a.weights.now a.phi a.eta.now a.mu.now) (working_response_at a.link a.y.now a.eta.now a.mu.now) a.t.now _ _ _ _ (omega arith) (rw (c.working_weight.ensures, c.variance.ensures, c.weight_at-wt.ensures, c.slope-me.ensures)) (rw (c.working_response.ensures, c.slope-me.ensures)) c.loop-i.invariant
