-- `report::put_fixed` meets its contract: three lists stand behind one another. Assumes nothing.
use native.Mathlib.Omega.{arith}
use Rattle.report.specs.Report.{fixed_lines}
use Rattle.report.proofs.Growing.{grown_three, grown_within}
use Rattle.report.proofs.put_fixed.Goals as goal

pub returns : goal.returns
unfolding fixed_lines
returns c =
    let s = c.requires in
    grown_within
    (grown_three c.put_values-beta_end.ensures c.put_values-se_end.ensures c.put_values.ensures
    (omega (arith, s.0, s.1, s.2))) (omega (arith, s.1, s.2, s.3))
