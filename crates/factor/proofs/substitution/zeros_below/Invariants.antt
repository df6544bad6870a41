-- `factor::zeros_below` meets its contract: before turn k the terms of the rows from i + 1 to k - 1 are zeros, and one that is not settles it.
use mathlib.Core.Path.{◌≡◌}
use mathlib.Core.Bool.{true}
use Prim.Native.Nat.{ℕ, ◌≤◌, ◌<◌, ◌+◌, ◌-◌}
use lib.Ieee.{eq}
use Rattle.base.specs.Number.{zero_f}
use Rattle.base.specs.Sum.{◌!◌}
use Rattle.factor.specs.Substitution.{down_term}
use Rattle.factor.proofs.substitution.zeros_below.Given as goal

abbrev pub invariant-loop-k : goal.invariant-loop-k
invariant-loop-k l = (l.i < l.k) × (l.k ≤ l.s) × ((j : ℕ) → l.i + 1 ≤ j → j < l.k → eq (down_term l.s l.l l.i (λ t. l.x ! t) j) zero_f ≡ true)

abbrev pub decreases-loop-k : goal.decreases-loop-k
decreases-loop-k l = l.s - l.k
