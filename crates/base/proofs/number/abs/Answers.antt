-- `base::abs` meets its contract: the sign is turned just where there is one.
use mathlib.Core.Path.{sym, ◌∙◌}
use Rattle.base.proofs.Doubles.{abs_negative, abs_positive}
use Rattle.base.proofs.number.abs.Goals as goal

pub returns-then-is_sign_negative : goal.returns-then-is_sign_negative
returns-then-is_sign_negative c = abs_negative _ (sym c.is_sign_negative.ensures ∙ c.if-is_sign_negative.true)

pub returns-else-is_sign_negative : goal.returns-else-is_sign_negative
returns-else-is_sign_negative c = abs_positive _ (sym c.is_sign_negative.ensures ∙ c.if-is_sign_negative.false)
