-- `iteration::eta_row` meets its contract: one place for each of the two rows.
use Rattle.stages.specs.Held.{eta_row}
use mathlib.Core.Path.{refl}
use Rattle.iteration.proofs.steps.eta_row.Goals as goal

pub returns-then-in_second : goal.returns-then-in_second
unfolding eta_row
returns-then-in_second c = rw c.if-in_second.true c.second_eta_row.ensures

pub returns : goal.returns
unfolding eta_row
returns c = rw c.if-in_second.false refl
