-- `report::put_effects` meets its contract: two lists stand behind one another. Assumes nothing.
use native.Mathlib.Omega.{arith}
use Rattle.report.specs.Report.{effect_lines}
use Rattle.report.proofs.Growing.{grown_both, grown_within}
use Rattle.report.proofs.put_effects.Goals as goal

pub returns : goal.returns
unfolding effect_lines
returns c =
    grown_within (grown_both c.put_values-u_end.ensures c.put_values.ensures (omega arith))
    (omega (arith, c.requires.1, c.requires.2))
