-- `family::ln_dgamma` meets its contract: minus infinity is the other infinity.
use lib.Ieee.{neg}
use Rattle.family.specs.Family.{ln_dgamma}
use Rattle.family.proofs.families.ln_dgamma.Goals as goal

pub returns-else-has_density : goal.returns-else-has_density
unfolding ln_dgamma neg
returns-else-has_density c = rw (c.infinity.ensures, ← c.has_density.ensures, c.if-has_density.false)
