-- `solve::side` meets its contract: Z'v, then Λ' over it in place.
use Rattle.solve.proofs.Steps.{side_made}
use Rattle.solve.proofs.sides.side.Goals as goal

pub returns : goal.returns
returns c = side_made _ _ _ _ _ _ _ _ _ c.requires.ready.effects c.requires.n_in_bounds.1 c.zt_times.ensures c.lambda_transposed.ensures
