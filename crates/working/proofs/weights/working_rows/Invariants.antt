-- `working::working_rows` meets its contract: before turn i the first i places of both rows are written, the row of z over that of w.
use mathlib.Core.Path.{◌≡◌}
use Rattle.base.specs.List.{fill_at}
use Rattle.rule.specs.Working.{working_weight_at, working_response_at}
use Rattle.working.proofs.weights.working_rows.Given as goal

abbrev pub invariant-loop-i : goal.invariant-loop-i
invariant-loop-i l = l.t ≡ fill_at l.z_at l.i (working_response_at l.link l.y l.eta l.mu) (fill_at l.w_at l.i (working_weight_at l.family l.link l.weights l.phi l.eta l.mu) l.initial.t)
