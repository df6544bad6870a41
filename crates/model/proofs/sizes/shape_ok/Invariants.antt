-- `model::shape_ok` meets its contract: every block passed is good and q is their sum, so that a block refused makes the shape bad, and at the end q alone is left to test.
use mathlib.Core.Path.{◌≡◌}
use mathlib.Core.Bool.{true}
use Prim.Native.Nat.{◌*◌, ◌≤◌}
use Rattle.base.specs.Sum.{all_to}
use Rattle.model.specs.Shape.{first_effect, good_block}
use Rattle.model.proofs.sizes.shape_ok.Given as goal

abbrev pub invariant-loop-i : goal.invariant-loop-i
invariant-loop-i l = ((1 ≤ l.count) × (l.count ≤ 8)) × ((l.i ≤ l.q) × (l.q ≤ 256 * l.i)) × ((l.q ≡ first_effect l.shape l.i) × (true ≡ all_to l.i (good_block l.shape)))
