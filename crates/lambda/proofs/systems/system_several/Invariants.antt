-- `lambda::system_several` meets its contract: before column c the first c entries are the sums over the column's numbers, with 1 more on the diagonal.
use mathlib.Core.Path.{◌≡◌}
use Prim.Native.Nat.{◌≤◌}
use lib.ListN.{length}
use Rattle.base.specs.List.{fill_at}
use Rattle.lambda.specs.Parts.{system_by}
use Rattle.lambda.proofs.systems.system_several.Given as goal

abbrev pub invariant-loop-c : goal.invariant-loop-c
invariant-loop-c l = ((l.c ≤ l.q) × (length l.out ≡ length l.initial.out)) × (l.out ≡ fill_at l.o l.c (system_by l.first l.count l.theta l.q l.k l.a) l.initial.out)
