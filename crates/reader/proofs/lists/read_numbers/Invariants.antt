-- `reader::read_numbers` meets its contract: the front of the slice holds the doubles passed. Assumes nothing.
use mathlib.Core.Path.{◌≡◌}
use Rattle.base.specs.List.{build}
use Rattle.job.specs.Lists.{laid}
use Rattle.job.specs.Format.{number}
use Rattle.reader.proofs.lists.read_numbers.Given as goal

abbrev pub invariant-loop-i : goal.invariant-loop-i
invariant-loop-i l = l.out ≡ laid (build (number l.s l.a) l.i) l.initial.out
