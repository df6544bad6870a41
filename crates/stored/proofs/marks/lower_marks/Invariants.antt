-- `stored::lower_marks` meets its contract: before entry k the marks of the entries before it are lowered.
use mathlib.Core.Path.{◌≡◌}
use Prim.Native.Nat.{◌-◌}
use Rattle.stored.specs.Marks.{lowered}
use Rattle.stored.proofs.marks.lower_marks.Given as goal

abbrev pub invariant-loop-k : goal.invariant-loop-k
invariant-loop-k l = l.marks ≡ lowered l.columns l.begin l.x (l.k - l.begin) l.initial.marks
