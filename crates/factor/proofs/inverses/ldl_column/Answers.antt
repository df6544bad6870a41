-- `factor::ldl_column` meets its contract: the unit column, solved.
use Rattle.factor.specs.Inverse.{ldl_column}
use Rattle.factor.proofs.inverses.ldl_column.Goals as goal

pub returns : goal.returns
unfolding ldl_column
returns c = cc
