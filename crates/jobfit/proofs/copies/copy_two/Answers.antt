-- `jobfit::copy_two` meets its contract: the second list stands behind the first. Assumes nothing.
use native.Mathlib.Omega.{arith}
use Rattle.jobfit.proofs.Behind.{copied_both}
use Rattle.jobfit.proofs.copies.copy_two.Goals as goal

pub returns : goal.returns
returns c = copied_both c.copy_behind-ended.ensures c.copy_behind.ensures (omega (arith, c.requires))
