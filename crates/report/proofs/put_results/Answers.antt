-- `report::put_results` meets its contract: the lists stand behind one another, and each leaves room for the next. Assumes nothing.
use native.Mathlib.Omega.{arith}
use Rattle.report.specs.Report.{result_lines}
use Rattle.report.proofs.Growing.{grown_both, grown_three, grown_length, grown_within}
use Rattle.report.proofs.put_results.Goals as goal

pub returns : goal.returns
unfolding result_lines
returns c =
    let s = c.requires in
    let p = c.put_fixed-fixed_end.ensures in
    let rest = grown_three c.put_effects-effects_end.ensures c.put_rows-rows_end.ensures c.put_values.ensures
    (omega (arith, s.0, s.1, p.few, grown_length p (omega (arith, s.0, s.1)))) in
    grown_within (grown_both p rest (omega (arith, s.0, s.1))) (omega (arith, s.2.v))
