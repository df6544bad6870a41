-- `report::put_fitted` meets its contract: the values stand behind the end line, which leaves them room. Assumes nothing.
use native.Mathlib.Omega.{arith}
use Rattle.lines.specs.Lines.{end_line}
use Rattle.report.specs.Report.{fitted_text}
use Rattle.report.proofs.Lengths.{end_few}
use Rattle.report.proofs.Growing.{grown_three, grown_front}
use borrow.Author.Rules.{rules}
use Rattle.report.proofs.put_fitted.Goals as goal

pub put_value-deviance_end-requires : goal.put_value-deviance_end-requires
put_value-deviance_end-requires c = (search rules, omega (arith, c.end_line-ended.ensures.0, end_few c.args.answer, c.end_line-ended.auto.out, c.requires.0))

pub put_value-phi_end-requires : goal.put_value-phi_end-requires
put_value-phi_end-requires c = (
  search rules,
  omega (
    arith,
    c.put_value-deviance_end.ensures.few,
    c.put_value-deviance_end.auto.out,
    c.end_line-ended.ensures.0,
    end_few c.args.answer,
    c.end_line-ended.auto.out,
    c.requires.0,
  ),
)

pub put_results-requires : goal.put_results-requires
put_results-requires c = (
  omega (arith, c.put_value-phi_end.ensures.few, c.put_value-deviance_end.ensures.few, c.end_line-ended.ensures.0, end_few c.args.answer),
  omega (arith, c.put_value-phi_end.auto.out, c.put_value-deviance_end.auto.out, c.end_line-ended.auto.out, c.requires.0),
  c.requires.1,
)

pub returns : goal.returns
unfolding fitted_text
returns c =
    let few = end_few c.args.answer in
    let values = grown_three c.put_value-deviance_end.ensures c.put_value-phi_end.ensures c.put_results.ensures
    (omega (arith, c.end_line-ended.ensures.0, c.end_line-ended.auto.out, c.requires.0)) in
    grown_front (end_line c.args.answer) c.args.out.now c.end_line-ended.ensures values (omega (arith, c.requires.0))
