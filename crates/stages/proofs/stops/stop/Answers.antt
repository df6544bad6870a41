-- `stages::stop` meets its contract: each call leaves what the next one reads, and the means are as they were lent.
use Rattle.stages.proofs.AtTheStop.{stop_made}
use Rattle.stages.proofs.stops.stop.Goals as goal

pub returns : goal.returns
returns c = stop_made c.args.family c.args.y.now c.args.weights.now c.args.n c.args.p c.args.q c.args.t.now c.args.r.now _ c.args.m.now _ _ _ _ c.requires.0.rows_long c.deviances_into-deviance_sum.ensures c.fit_at-fit.ensures c.laplace_at-laplace.ensures c.root_inverse.ensures
