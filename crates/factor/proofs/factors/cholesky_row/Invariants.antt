-- `factor::cholesky_row` meets its contract: before turn j the first j entries of row i are the rule's.
use mathlib.Core.Path.{◌≡◌}
use Prim.Native.Nat.{◌*◌}
use lib.ListN.{length}
use Rattle.factor.specs.Triangle.{row_by}
use Rattle.factor.specs.Factor.{cholesky_rule}
use Rattle.factor.proofs.factors.cholesky_row.Given as goal

abbrev pub invariant-loop-j : goal.invariant-loop-j
invariant-loop-j l = (length l.a ≡ length l.initial.a) × (l.a ≡ row_by (cholesky_rule l.s) (l.i * l.s) l.j l.initial.a)
