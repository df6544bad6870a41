-- `factor::ldl` meets its contract: before turn i the first i rows are the rule's and their pivots passed, and the flag says that they are finite; a row's pivot fails, or is written.
use Rattle.std.specs.Prelude.{Ok}
use Prim.{tt}
use mathlib.Core.Path.{◌≡◌}
use mathlib.Core.Bool.{true}
use Prim.Native.Nat.{◌*◌}
use lib.ListN.{length}
use Rattle.base.specs.InPlace.{fill_by}
use Rattle.factor.specs.Triangle.{first_bad}
use Rattle.factor.specs.Factor.{ldl_rule, ldl_of, ldl_passes}
use Rattle.factor.specs.Heads.{FineRows}
use Rattle.factor.proofs.factors.ldl.Given as goal

abbrev pub invariant-loop-i : goal.invariant-loop-i
invariant-loop-i l = (length l.out ≡ length l.initial.out) × (l.out ≡ fill_by (ldl_rule l.s l.a) (l.i * l.s) l.initial.out) × (Ok tt ≡ first_bad l.i (ldl_passes l.s (ldl_of l.s l.a l.initial.out))) × (l.fine ≡ true → FineRows l.s l.out l.i)
