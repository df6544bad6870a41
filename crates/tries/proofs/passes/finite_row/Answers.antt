-- `tries::finite_row` meets its contract: the part that is lent is the row.
use Rattle.tries.proofs.Turns.{finite_part}
use Rattle.tries.proofs.passes.finite_row.Goals as goal

pub returns : goal.returns
returns c = finite_part _ _ _ _ c.all_finite.ensures
