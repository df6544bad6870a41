-- `respond::respond_with` meets its contract: what reading leaves in the fronts of the slices is the job. Assumes nothing.
use Rattle.jobfit.proofs.Reading.{read_refused, fronts_fit, theta_fits, read_job}
use Rattle.respond.proofs.Telling.{refused_response, called_response}
use Rattle.respond.proofs.whole.respond_with.Goals as goal

pub slice_bounds-answer_read-end : goal.slice_bounds-answer_read-end
slice_bounds-answer_read-end c = theta_fits _ _ _ _ c.requires.1 c.read_job.ensures _ c.in-Ok.is

pub answer_read-requires : goal.answer_read-requires
answer_read-requires c = (c.requires.0, fronts_fit _ _ _ _ c.requires.1 c.read_job.ensures _ c.in-Ok.is _)

pub returns-in-Err : goal.returns-in-Err
returns-in-Err c =
    refused_response _ _ _ _ _ _ _ (read_refused _ _ _ _ c.requires.1 c.read_job.ensures _ c.in-Err.is)
    c.refused_line.ensures

pub returns-in-Ok : goal.returns-in-Ok
returns-in-Ok c = called_response _ _ _ _ (read_job _ _ _ _ c.requires.1 c.read_job.ensures _ c.in-Ok.is) _ _ _ c.answer_read.ensures
