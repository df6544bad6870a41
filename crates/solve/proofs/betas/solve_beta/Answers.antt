-- `solve::solve_beta` meets its contract: the part that is lent holds the right side.
use mathlib.Core.Path.{refl}
use Rattle.solve.proofs.SolvedBeta.{beta_made}
use Rattle.solve.proofs.betas.solve_beta.Goals as goal

pub returns : goal.returns
returns c = beta_made c.args.beta c.args.p _ _ _ c.cholesky_solve.new.x refl c.requires.1 c.cholesky_solve.auto.x c.cholesky_solve.ensures
