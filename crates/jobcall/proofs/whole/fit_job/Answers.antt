-- `jobcall::fit_job` meets its contract: the theta is the job's own. Assumes nothing.
use Rattle.jobcall.specs.Told.{fit_job_of}
use Rattle.jobcall.proofs.whole.fit_job.Goals as goal

pub returns : goal.returns
unfolding fit_job_of
returns c = c.call.ensures
