-- `results::v_row` meets its contract: before turn b the first b entries of the row are v's.
use mathlib.Core.Path.{◌≡◌}
use Prim.Native.Nat.{◌*◌}
use lib.ListN.{length}
use Rattle.base.specs.List.{fill_at}
use Rattle.factor.specs.Inverse.{v_at}
use Rattle.results.proofs.fixed.v_row.Given as goal

abbrev pub invariant-loop-b : goal.invariant-loop-b
invariant-loop-b l = (length l.out ≡ length l.initial.out) × (l.out ≡ fill_at (l.a * l.p) l.b (v_at l.p l.columns l.a) l.initial.out)
