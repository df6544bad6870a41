-- `manytext::read_doubles` meets its contract: the front of the slice holds the doubles passed. Assumes nothing.
use mathlib.Core.Path.{◌≡◌}
use Prim.Native.Nat.{◌/◌}
use lib.ListN.{length}
use Rattle.base.specs.List.{build}
use Rattle.job.specs.Lists.{laid}
use Rattle.manytext.specs.Input.{word_at}
use Rattle.manytext.proofs.input.read_doubles.Given as goal

abbrev pub invariant-loop-i : goal.invariant-loop-i
invariant-loop-i l = (l.out ≡ laid (build (word_at l.bytes) l.i) l.initial.out) × (l.n ≡ length l.bytes / 8)
