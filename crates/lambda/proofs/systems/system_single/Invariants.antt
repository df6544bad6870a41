-- `lambda::system_single` meets its contract: before column c the first c entries are the products with the one number, with 1 more on the diagonal.
use mathlib.Core.Path.{◌≡◌}
use Prim.Native.Nat.{◌≤◌}
use lib.ListN.{length}
use Rattle.base.specs.List.{fill_at}
use Rattle.lambda.specs.Parts.{system_one}
use Rattle.lambda.proofs.systems.system_single.Given as goal

abbrev pub invariant-loop-c : goal.invariant-loop-c
invariant-loop-c l = ((l.c ≤ l.q) × (length l.out ≡ length l.initial.out)) × (l.out ≡ fill_at l.o l.c (system_one l.x l.q l.k l.a) l.initial.out)
