-- `factor::cholesky_solve` meets its contract: it is the two substitutions in order.
use Rattle.factor.specs.Substitution.{cholesky_solve}
use Rattle.factor.proofs.substitution.cholesky_solve.Goals as goal

pub returns : goal.returns
unfolding cholesky_solve
returns c = cc
