-- `factor::ldl_row` meets its contract: before turn j the first j entries of row i are the rule's, and those before `head` are zeros.
use mathlib.Core.Path.{◌≡◌}
use Prim.Native.Nat.{◌≤◌, ◌*◌}
use lib.ListN.{length}
use Rattle.factor.specs.Triangle.{row_by}
use Rattle.factor.specs.Factor.{ldl_rule}
use Rattle.factor.specs.Heads.{ZeroHead}
use Rattle.factor.proofs.factors.ldl_row.Given as goal

abbrev pub invariant-loop-j : goal.invariant-loop-j
invariant-loop-j l = (length l.out ≡ length l.initial.out) × (l.out ≡ row_by (ldl_rule l.s l.a) (l.i * l.s) l.j l.initial.out) × (l.head ≤ l.j) × ZeroHead l.fine l.s l.i l.out l.head
