-- `jobfit::copy_behind` meets its contract: the numbers passed stand behind the first `at`. Assumes nothing.
use mathlib.Core.Path.{refl}
use native.Mathlib.Omega.{arith}
use Rattle.job.proofs.ListLaws.{behind_none}
use Rattle.jobfit.proofs.Behind.{number_on}
use Rattle.jobfit.proofs.copies.copy_behind.Goals as goal

pub loop-i-init : goal.loop-i-init
loop-i-init c = let a = c.args in (refl, behind_none a.at a.out.now (omega arith))

pub loop-i-preserved : goal.loop-i-preserved
loop-i-preserved c = let l = c.loop-i.invariant in (l.0, number_on _ _ _ _ _ _ refl (omega arith) (omega arith) l.1)
