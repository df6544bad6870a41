-- `jobfit::copy_three` meets its contract: two lists stand behind the first. Assumes nothing.
use native.Mathlib.Omega.{arith}
use Rattle.jobfit.proofs.Behind.{copied_both}
use Rattle.jobfit.proofs.copies.copy_three.Goals as goal

pub returns : goal.returns
returns c = copied_both c.copy_behind-ended.ensures c.copy_two.ensures (omega (arith, c.requires))
