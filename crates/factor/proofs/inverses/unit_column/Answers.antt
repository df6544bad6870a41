-- `factor::unit_column` meets its contract: zeros, and 1 at c.
use native.Mathlib.Omega.{arith}
use Rattle.factor.proofs.Columns.{unit_made}
use Rattle.factor.proofs.inverses.unit_column.Goals as goal

pub returns : goal.returns
returns c = rw c.wipe.ensures (unit_made _ _ _ (omega arith) (omega arith))
