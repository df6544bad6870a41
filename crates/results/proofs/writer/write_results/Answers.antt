-- `results::write_results` meets its contract: each result is written by one call, and those that are read again are not written twice.
use Rattle.results.proofs.Made.{results_made}
use Rattle.results.proofs.writer.write_results.Goals as goal

pub returns : goal.returns
returns c =
    let args = c.args in
    results_made args.shape args.n args.p args.q args.theta.now args.y.now args.columns.now args.mode_beta.now args.mode_u.now
    args.mode_mu.now args.mode_eta.now args.beta.now args.se.now args.z.now args.u.now args.b.now args.mu.now args.eta.now
    args.residual.now args.v.now _ _ _ _ _ _ _ _ _ c.requires.readable c.requires.writable c.v_rows.ensures c.standard_errors.ensures
    c.z_values.ensures c.copy.ensures c.copy-2.ensures c.lambda_times.ensures c.copy-3.ensures
    c.copy-4.ensures c.residuals.ensures
