-- `jobcall::fit_job_theta` meets its contract: the theta is the one beside the job. Assumes nothing.
use Rattle.jobcall.specs.Told.{fit_job_theta_of}
use Rattle.jobcall.proofs.whole.fit_job_theta.Goals as goal

pub returns : goal.returns
unfolding fit_job_theta_of
returns c = c.call.ensures
