-- `report::put_answer` meets its contract: the number tells which text is written. Assumes nothing.
use mathlib.Core.Path.{sym, ◌∙◌}
use borrow.Author.Tests.{eq-eqb, ne_eqb}
use Rattle.report.specs.Report.{answer_text}
use Rattle.report.proofs.put_answer.Goals as goal

pub returns-then-number-eq0 : goal.returns-then-number-eq0
unfolding answer_text
returns-then-number-eq0 c = rw (eq-eqb c.args.answer.number 0 c.if-number-eq0.true) c.put_fitted.ensures

pub returns-then-is_end : goal.returns-then-is_end
unfolding answer_text
returns-then-is_end c =
    let n = c.args.answer.number in
    rw (ne_eqb n 0 c.if-number-eq0.false, sym c.is_end.ensures ∙ c.if-is_end.true) c.end_line.ensures

pub returns : goal.returns
unfolding answer_text
returns c =
    let n = c.args.answer.number in
    rw (ne_eqb n 0 c.if-number-eq0.false, sym c.is_end.ensures ∙ c.if-is_end.false) c.refused_line.ensures
