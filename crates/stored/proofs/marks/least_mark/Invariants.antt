-- `stored::least_mark` meets its contract: before entry k it is the least mark of the entries before it.
use mathlib.Core.Path.{◌≡◌}
use Prim.Native.Nat.{◌-◌}
use Rattle.stored.specs.Marks.{least_mark}
use Rattle.stored.proofs.marks.least_mark.Given as goal

abbrev pub invariant-loop-k : goal.invariant-loop-k
invariant-loop-k l = l.least ≡ least_mark l.columns l.begin (l.k - l.begin) l.marks
