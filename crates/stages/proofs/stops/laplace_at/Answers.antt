-- `stages::laplace_at` meets its contract: the parts that are lent are the factor's square and u.
use Rattle.stages.proofs.AtTheStop.{laplace_made}
use Rattle.stages.proofs.stops.laplace_at.Goals as goal

pub returns : goal.returns
returns c = laplace_made c.args.p c.args.q _ _ _ _ c.args.m.now c.args.t.now c.args.fit _ _ c.factor_at-factor.ensures c.w_at-w.ensures c.u_at-u.ensures c.b_at-b.ensures c.log_pivots-pivots.ensures c.dot-squares.ensures
