-- `factor::cholesky_column` meets its contract: the unit column, solved.
use Rattle.factor.specs.Inverse.{cholesky_column}
use Rattle.factor.proofs.inverses.cholesky_column.Goals as goal

pub returns : goal.returns
unfolding cholesky_column
returns c = cc
