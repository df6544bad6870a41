-- `job::shape_in` meets its contract: the fronts of the two arrays hold m and k of the blocks passed. Assumes nothing.
use mathlib.Core.Path.{◌≡◌}
use lib.ListN.{replicate}
use Rattle.job.specs.Lists.{counts, laid}
use Rattle.job.specs.Format.{groups, effects_in}
use Rattle.job.proofs.sizes.shape_in.Given as goal

abbrev pub invariant-loop-i : goal.invariant-loop-i
invariant-loop-i l = (l.m ≡ laid (counts (groups l.s) l.i) (replicate 8 0)) × (l.k ≡ laid (counts (effects_in l.s) l.i) (replicate 8 0))
