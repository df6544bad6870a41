-- `lambda::right_several` meets its contract: before row a the first a entries are the sums over the column's numbers.
use mathlib.Core.Path.{◌≡◌}
use Prim.Native.Nat.{◌≤◌}
use lib.ListN.{length}
use Rattle.base.specs.List.{fill_at}
use Rattle.lambda.specs.Parts.{right_by}
use Rattle.lambda.proofs.systems.right_several.Given as goal

abbrev pub invariant-loop-a : goal.invariant-loop-a
invariant-loop-a l = ((l.a ≤ l.q) × (length l.out ≡ length l.initial.out)) × (l.out ≡ fill_at l.o l.a (right_by l.first l.count l.theta l.q l.s l.c) l.initial.out)
