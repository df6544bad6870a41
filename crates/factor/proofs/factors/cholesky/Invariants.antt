-- `factor::cholesky` meets its contract: before turn i the first i rows are the rule's and their pivots passed; a row's pivot fails, or its root is written.
use Rattle.std.specs.Prelude.{Ok}
use Prim.{tt}
use mathlib.Core.Path.{◌≡◌}
use Prim.Native.Nat.{◌*◌}
use lib.ListN.{length}
use Rattle.base.specs.InPlace.{fill_by}
use Rattle.factor.specs.Triangle.{first_bad}
use Rattle.factor.specs.Factor.{cholesky_rule, cholesky_of, cholesky_passes}
use Rattle.factor.proofs.factors.cholesky.Given as goal

abbrev pub invariant-loop-i : goal.invariant-loop-i
invariant-loop-i l = (length l.a ≡ length l.initial.a) × (l.a ≡ fill_by (cholesky_rule l.s) (l.i * l.s) l.initial.a) × (Ok tt ≡ first_bad l.i (cholesky_passes l.s l.initial.a (cholesky_of l.s l.initial.a)))
