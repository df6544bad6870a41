-- `solve::factor_normal` meets its contract: the part that is lent holds N's lower triangle, which alone is read.
use mathlib.Core.Path.{refl}
use Rattle.solve.proofs.SolvedBeta.{root_made}
use Rattle.solve.proofs.betas.factor_normal.Goals as goal

pub returns : goal.returns
returns c = root_made c.args.normal c.args.p _ _ c.cholesky.new.a _ refl c.requires c.cholesky.auto.a c.cholesky.ensures
