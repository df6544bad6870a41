-- `factor::sum_behind` meets its contract: before turn k the sum is that of the first k products, of which the zeros before `head` leave +0.0.
use mathlib.Core.Path.{◌≡◌}
use Prim.Native.Nat.{◌≤◌}
use Rattle.base.specs.Sum.{sum_to, product_from}
use Rattle.factor.proofs.substitution.sum_behind.Given as goal

abbrev pub invariant-loop-k : goal.invariant-loop-k
invariant-loop-k l = (l.k ≤ l.n) × (l.sum ≡ sum_to l.k (product_from l.l l.o l.x))
