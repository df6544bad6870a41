-- `jobfit::copy_behind` meets its contract: the numbers passed stand behind the first `at`. Assumes nothing.
use mathlib.Core.Path.{◌≡◌}
use mathlib.Core.List.{◌++◌}
use lib.ListN.{length, take}
use Rattle.job.specs.Lists.{laid}
use Rattle.jobfit.proofs.copies.copy_behind.Given as goal

abbrev pub invariant-loop-i : goal.invariant-loop-i
invariant-loop-i l = (l.n ≡ length l.list) × (l.out ≡ laid (take l.at l.initial.out ++ take l.i l.list) l.initial.out)
