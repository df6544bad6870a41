-- `inner::inner_answer` meets its contract: the fit's end decides; where it stopped, the work slices hold the mode for the quadrature.
use Rattle.inner.proofs.Answering.{lent_after, sum_fits, failed_left, stopped_left}
use Rattle.inner.proofs.fits.inner_answer.Goals as goal

pub answer_of-requires : goal.answer_of-requires
answer_of-requires c =
    sum_fits _ c.args.wish _ _ _ _ _ _ _ _ _ _ c.inner_fit-fit.ensures c.requires.asked.ready.good c.requires.limit_bound _
    c.quadrature_at-quadrature.ensures.few

pub returns-in-Err : goal.returns-in-Err
returns-in-Err c = failed_left _ c.args.wish _ _ _ _ _ _ _ _ _ _ c.inner_fit-fit.ensures _ _ c.in-Err.is c.failed_answer.ensures

pub returns-in-Ok : goal.returns-in-Ok
returns-in-Ok c =
    stopped_left _ c.args.wish _ _ _ _ _ _ _ _ _ _ c.inner_fit-fit.ensures
    (lent_after c.requires.asked c.inner_fit-fit.ensures.rows_only c.inner_fit-fit.ensures.matrices_only
    c.inner_fit-fit.ensures.terms_only) _ _ _ _ _ c.quadrature_at-quadrature.ensures _ c.in-Ok.is c.answer_of.ensures
