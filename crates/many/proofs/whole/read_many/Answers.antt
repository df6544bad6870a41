-- `many::read_many` meets its contract: what reading leaves in the fronts of the slices is the job, whose own y is not looked at. Assumes nothing.
use Rattle.jobfit.proofs.Reading.{read_refused, fronts_fit, theta_fits, read_job}
use Rattle.many.proofs.Telling.{faulty_told, design_fronts, read_told}
use Rattle.many.proofs.whole.read_many.Goals as goal

pub slice_bounds-fit_fronts_many-end : goal.slice_bounds-fit_fronts_many-end
slice_bounds-fit_fronts_many-end c = theta_fits _ _ _ _ c.requires.1 c.read_job.ensures _ c.in-Ok.is

pub fit_fronts_many-requires : goal.fit_fronts_many-requires
fit_fronts_many-requires c =
    let ys = c.args.responses.now in (
      c.requires.0,
      design_fronts _ _ ys ys _ _ _ _ _ _ _ (fronts_fit _ _ _ _ c.requires.1 c.read_job.ensures _ c.in-Ok.is ys),
    )

pub returns-in-Err : goal.returns-in-Err
returns-in-Err c =
    faulty_told _ c.args.count c.args.responses.now _ _ _ _ _ _ _ _
    (read_refused _ _ _ _ c.requires.1 c.read_job.ensures _ c.in-Err.is) c.put_refusal.ensures

pub returns-in-Ok : goal.returns-in-Ok
returns-in-Ok c =
    read_told _ _ _ _ (read_job _ _ _ _ c.requires.1 c.read_job.ensures _ c.in-Ok.is) c.args.count
    c.args.responses.now _ _ c.fit_fronts_many.ensures
