-- `rounds::round_after` meets its contract: each arm is the definition's line for its end.
use mathlib.Core.Path.{refl}
use Rattle.rounds.specs.Totals.{round_after}
use Rattle.rounds.proofs.totals.round_after.Goals as goal

pub returns-in-Ok : goal.returns-in-Ok
unfolding round_after
returns-in-Ok c = rw (c.round_of.ensures, c.in-Ok.is) refl

pub returns-in-Err : goal.returns-in-Err
unfolding round_after
returns-in-Err c = rw c.in-Err.is refl
