-- `lambda::right_single` meets its contract: before row a the first a entries are the products with the one number.
use mathlib.Core.Path.{◌≡◌}
use Prim.Native.Nat.{◌≤◌}
use lib.ListN.{length}
use Rattle.base.specs.List.{fill_at}
use Rattle.lambda.specs.Parts.{right_one}
use Rattle.lambda.proofs.systems.right_single.Given as goal

abbrev pub invariant-loop-a : goal.invariant-loop-a
invariant-loop-a l = ((l.a ≤ l.q) × (length l.out ≡ length l.initial.out)) × (l.out ≡ fill_at l.o l.a (right_one l.x l.q l.s l.c) l.initial.out)
