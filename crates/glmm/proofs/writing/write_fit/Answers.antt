-- `glmm::write_fit` meets its contract: the parts of the fit stand where the layout says, and the writer of results is handed them.
use Rattle.glmm.proofs.Written.{written_if, parts_written}
use Rattle.glmm.proofs.writing.write_fit.Goals as goal

pub returns : goal.returns
returns c =
    let args = c.args in
    written_if args.fitted _ _ _ c.if-not-fitted.false
    (parts_written args.shape args.n args.p args.q args.theta.now args.y.now args.r.now args.m.now c.requires.standing _ _ _ _ _ _ _ _ _
    c.root_inverse_at-root.ensures c.wy_at-wy.ensures c.beta_at-fixed.ensures c.beta_end-fixed_end.ensures
    c.u_at-effects.ensures c.b_at-next.ensures c.second_eta_row-second.ensures c.mu_row-means.ensures c.raw_row-raw.ensures
    args.in_second _ c.holder-predictor.ensures _ c.write_results.ensures)
