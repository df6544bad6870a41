-- `family::gamma_deviance` meets its contract: outside the range the constant is NaN.
use lib.Ieee.{of_bits}
use Rattle.family.specs.Family.{dev_resid}
use Rattle.family.proofs.families.gamma_deviance.Goals as goal

pub returns-then-y : goal.returns-then-y
unfolding dev_resid of_bits
returns-then-y c = rw c.if-y.true
