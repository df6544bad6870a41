-- `cases_fitjob::put_job` is safe: what was written is within the buffer. Assumes nothing.
use Rattle.respond.proofs.Telling.{respond_within}
use Rattle.cases_fitjob.proofs.put_job.Goals as goal

pub slice_bounds-put_word-end-2 : goal.slice_bounds-put_word-end-2
slice_bounds-put_word-end-2 c = respond_within _ _ _ _ _ _ c.respond-n.ensures
