-- `stages::fit_at` meets its contract: the part that is lent is the row of the means.
use Rattle.stages.proofs.AtTheStop.{fit_made}
use Rattle.stages.proofs.stops.fit_at.Goals as goal

pub returns : goal.returns
returns c = fit_made c.args.family c.args.y.now c.args.weights.now c.args.n _ _ c.args.r.now c.args.sum _ c.mu_row-mu.ensures c.raw_row-raw.ensures c.fit_term.ensures
