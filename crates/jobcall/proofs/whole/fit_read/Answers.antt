-- `jobcall::fit_read` meets its contract: what is told is of the call that was done. Assumes nothing.
use Rattle.jobcall.proofs.Telling.{read_told}
use Rattle.jobcall.proofs.whole.fit_read.Goals as goal

pub returns : goal.returns
returns c = read_told _ _ _ _ _ _ _ _ _ _ _ _ _ _ _ c.fit_fronts-answer.ensures c.put_counts.ensures c.returned.ensures
