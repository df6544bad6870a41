-- `sums::log_sum` meets its contract: its test is the definition's, on the log sum of the front of the terms.
use mathlib.Core.Path.{sym, ◌∙◌}
use Rattle.sums.proofs.Fronts.{sum_found, no_sum_found}
use Rattle.sums.proofs.answers.log_sum.Goals as goal

pub returns-then-is_finite : goal.returns-then-is_finite
returns-then-is_finite c =
    sum_found c.args.t.now c.args.count _ c.requires c.log_sum_exp-s.ensures
    (sym c.is_finite.ensures ∙ c.if-is_finite.true)

pub returns : goal.returns
returns c =
    no_sum_found c.args.t.now c.args.count _ c.requires c.log_sum_exp-s.ensures
    (sym c.is_finite.ensures ∙ c.if-is_finite.false)
