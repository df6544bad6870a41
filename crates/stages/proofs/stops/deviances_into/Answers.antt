-- `stages::deviances_into` meets its contract: the row that is written is the part that is summed.
use Rattle.stages.proofs.AtTheStop.{deviances_made}
use Rattle.stages.proofs.stops.deviances_into.Goals as goal

pub returns : goal.returns
returns c = deviances_made c.args.family c.args.y.now c.args.weights.now c.args.n _ _ _ c.args.r.now _ _ c.mu_row-mu.ensures c.deviance_row-deviances.ensures c.point_row-point.ensures c.mode_deviances.ensures c.deviance_sum.ensures
