-- `tries::of_try` meets its contract: one try is counted, and one in the part of its fate.
use mathlib.Core.Path.{refl}
use Rattle.model.specs.Items.{count_of, tally}
use Rattle.tries.proofs.search.of_try.Goals as goal

pub returns-in-Err-Eta : goal.returns-in-Err-Eta
unfolding tally count_of
returns-in-Err-Eta c = let f = rw c.in-Err-Eta.is at c.in-Err-Eta.field-0-is in rw (c.none-one.ensures, c.in-Err-Eta.is, f) refl

pub returns-in-Err-Mean : goal.returns-in-Err-Mean
unfolding tally count_of
returns-in-Err-Mean c = let f = rw c.in-Err-Mean.is at c.in-Err-Mean.field-0-is in rw (c.none-one.ensures, c.in-Err-Mean.is, f) refl

pub returns-in-Err-Pwrss : goal.returns-in-Err-Pwrss
unfolding tally count_of
returns-in-Err-Pwrss c = let f = rw c.in-Err-Pwrss.is at c.in-Err-Pwrss.field-0-is in rw (c.none-one.ensures, c.in-Err-Pwrss.is, f) refl

pub returns-in-Ok : goal.returns-in-Ok
unfolding tally count_of
returns-in-Ok c = rw (c.none-one.ensures, c.in-Ok.is) refl
