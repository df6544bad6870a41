-- `jobcall::call_read` meets its contract: what reading leaves in the fronts of the slices is the job. Assumes nothing.
use Rattle.jobfit.proofs.Reading.{read_refused, fronts_fit, theta_fits, read_job}
use Rattle.jobcall.proofs.Telling.{refused_told, called_told}
use Rattle.jobcall.proofs.whole.call_read.Goals as goal

pub theta_of-chosen-requires : goal.theta_of-chosen-requires
theta_of-chosen-requires c = theta_fits _ _ _ _ c.requires.1 c.read_job.ensures _ c.in-Ok.is

pub fit_read-requires : goal.fit_read-requires
fit_read-requires c = (c.requires.0, fronts_fit _ _ _ _ c.requires.1 c.read_job.ensures _ c.in-Ok.is _)

pub returns-in-Err : goal.returns-in-Err
returns-in-Err c =
    refused_told c.args.own c.args.given.now _ _ _ _ _ _ _ _ _
    (read_refused _ _ _ _ c.requires.1 c.read_job.ensures _ c.in-Err.is) c.put_refusal.ensures

pub returns-in-Ok : goal.returns-in-Ok
returns-in-Ok c =
    called_told c.args.own c.args.given.now _ _ _ _ (read_job _ _ _ _ c.requires.1 c.read_job.ensures _ c.in-Ok.is) _
    c.theta_of-chosen.ensures _ _ _ _ _ _ c.fit_read.ensures
