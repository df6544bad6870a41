-- `factor::zeros_before` meets its contract: before turn k the first k terms are zeros, and one that is not settles it.
use mathlib.Core.Path.{◌≡◌}
use mathlib.Core.Bool.{true}
use Prim.Native.Nat.{ℕ, ◌≤◌, ◌<◌}
use lib.Ieee.{eq}
use Rattle.base.specs.Number.{zero_f}
use Rattle.base.specs.Sum.{product_from}
use Rattle.factor.proofs.substitution.zeros_before.Given as goal

abbrev pub invariant-loop-k : goal.invariant-loop-k
invariant-loop-k l = ((j : ℕ) → 0 ≤ j → j < l.k → eq (product_from l.l l.o l.x j) zero_f ≡ true)
