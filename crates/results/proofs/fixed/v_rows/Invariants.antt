-- `results::v_rows` meets its contract: before turn a the first a rows are written.
use mathlib.Core.Path.{◌≡◌}
use lib.ListN.{length}
use Rattle.base.specs.List.{grid_to}
use Rattle.factor.specs.Inverse.{v_at}
use Rattle.results.proofs.fixed.v_rows.Given as goal

abbrev pub invariant-loop-a : goal.invariant-loop-a
invariant-loop-a l = (length l.out ≡ length l.initial.out) × (l.out ≡ grid_to l.a l.p (v_at l.p l.columns) l.initial.out)
