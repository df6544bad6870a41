-- `rounds::fit_from` meets its contract: each arm is the definition's line for its end.
use mathlib.Core.Path.{refl}
use Rattle.rounds.specs.Totals.{fit_from}
use Rattle.rounds.proofs.totals.fit_from.Goals as goal

pub returns-in-Ok : goal.returns-in-Ok
unfolding fit_from
returns-in-Ok c = rw (c.fitted.ensures, c.in-Ok.is) refl

pub returns-in-Err : goal.returns-in-Err
unfolding fit_from
returns-in-Err c = rw (c.unfitted.ensures, c.in-Err.is) refl
