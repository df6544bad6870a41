-- `quadrature::log_sum_exp` meets its contract: its test is the definition's, on the same largest entry.
use mathlib.Core.Path.{sym, ◌∙◌}
use lib.Ieee.{neg}
use Rattle.quadrature.proofs.LogSums.{log_sum_value, log_sum_not_finite}
use Rattle.quadrature.proofs.logsum.log_sum_exp.Goals as goal

pub returns-then-is_finite : goal.returns-then-is_finite
returns-then-is_finite c =
    rw (c.ln.ensures, c.exp_sum.ensures)
    (log_sum_value _ _ c.largest-m.ensures (sym c.is_finite.ensures ∙ c.if-is_finite.true))

pub returns-else-is_finite : goal.returns-else-is_finite
unfolding neg
returns-else-is_finite c =
    rw c.infinity.ensures
    (sym (log_sum_not_finite _ _ c.largest-m.ensures (sym c.is_finite.ensures ∙ c.if-is_finite.false)))
