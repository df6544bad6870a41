-- `family::binomial_deviance` meets its contract: outside the range the constant is NaN.
use lib.Ieee.{of_bits}
use Rattle.family.specs.Family.{dev_resid}
use Rattle.family.proofs.families.binomial_deviance.Goals as goal

pub returns-else-is_proportion : goal.returns-else-is_proportion
unfolding dev_resid of_bits
returns-else-is_proportion c = rw (← c.is_proportion.ensures, c.if-is_proportion.false)
