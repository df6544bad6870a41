-- `glmm::fit` meets its contract: by the verdict an accepted call is fitted, and of a refused one every slice stays as it is.
use Rattle.call.specs.Call.{lengths_of, call_given}
use Rattle.glmm.proofs.ByVerdict.{call_asked, call_limit, call_writable, call_fitted, call_refused}
use Rattle.glmm.proofs.calls.fit.Goals as goal

pub fit_accepted-requires : goal.fit_accepted-requires
unfolding lengths_of
fit_accepted-requires c =
    let args = c.args in
    let l = args.lists.now in
    record {
      asked = call_asked args.settings args.shape l.theta.now l.y.now l.weights.now l.offset.now l.x.now
          l.starts.now l.columns.now l.values.now args.beta.now args.se.now args.z.now args.u.now args.b.now
          args.mu.now args.eta.now args.residual.now args.v.now args.rows.now args.matrices.now args.terms.now _ _ _
          c.verdict_of-verdict.ensures c.in-Ok.is;
      limit_bound = call_limit args.settings args.shape l.theta.now l.y.now l.weights.now l.offset.now l.x.now
          l.starts.now l.columns.now l.values.now args.beta.now args.se.now args.z.now args.u.now args.b.now
          args.mu.now args.eta.now args.residual.now args.v.now args.rows.now args.matrices.now args.terms.now _ _ _
          c.verdict_of-verdict.ensures c.in-Ok.is _ c.limit_of-limit.ensures;
      writable = call_writable args.settings args.shape l.theta.now l.y.now l.weights.now l.offset.now l.x.now
          l.starts.now l.columns.now l.values.now args.beta.now args.se.now args.z.now args.u.now args.b.now
          args.mu.now args.eta.now args.residual.now args.v.now args.rows.now args.matrices.now args.terms.now _ _ _
          c.verdict_of-verdict.ensures c.in-Ok.is;
    }

pub returns-in-Ok : goal.returns-in-Ok
unfolding lengths_of call_given
returns-in-Ok c =
    let args = c.args in
    let l = args.lists.now in
    call_fitted args.settings args.shape l.theta.now l.y.now l.weights.now l.offset.now l.x.now l.starts.now
    l.columns.now l.values.now args.beta.now args.se.now args.z.now args.u.now args.b.now args.mu.now args.eta.now
    args.residual.now args.v.now args.rows.now args.matrices.now args.terms.now _ _ _ c.verdict_of-verdict.ensures
    c.in-Ok.is _ _ _ c.limit_of-limit.ensures c.fit_accepted.ensures

pub returns-in-Err : goal.returns-in-Err
unfolding lengths_of
returns-in-Err c =
    let args = c.args in
    let l = args.lists.now in
    call_refused args.settings args.shape l.theta.now l.y.now l.weights.now l.offset.now l.x.now l.starts.now
    l.columns.now l.values.now args.beta.now args.se.now args.z.now args.u.now args.b.now args.mu.now args.eta.now
    args.residual.now args.v.now args.rows.now args.matrices.now args.terms.now _ _ _ c.verdict_of-verdict.ensures
    c.in-Err.is c.refused.ensures
