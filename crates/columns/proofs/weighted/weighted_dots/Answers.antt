-- `columns::weighted_dots` meets its contract: before each turn the entries before column b are written; a turn writes some more, and perhaps some of them again.
use Rattle.base.proofs.Fills.{fill_none}
use native.Mathlib.Omega.{arith}
use Rattle.columns.proofs.weighted.weighted_dots.Goals as goal

pub loop-b-init : goal.loop-b-init
loop-b-init c = (omega arith, omega arith, fill_none _ _)
