-- `factor::ldl_solve` meets its contract: it is the three substitutions in order.
use Rattle.factor.specs.Substitution.{ldl_solve}
use Rattle.factor.proofs.substitution.ldl_solve.Goals as goal

pub returns : goal.returns
unfolding ldl_solve
returns c = cc
