-- `factor::sum_further` meets its contract: before turn k the sum is that of the rows from i + 1 to k - 1, of which the zeros before `head` leave +0.0.
use mathlib.Core.Path.{◌≡◌}
use Prim.Native.Nat.{◌≤◌, ◌<◌, ◌+◌}
use Rattle.base.specs.Sum.{◌!◌, sum_from}
use Rattle.factor.specs.Substitution.{down_term}
use Rattle.factor.proofs.substitution.sum_further.Given as goal

abbrev pub invariant-loop-k : goal.invariant-loop-k
invariant-loop-k l = (l.i < l.k) × (l.k ≤ l.s) × (l.sum ≡ sum_from (l.i + 1) l.k (down_term l.s l.l l.i (λ t. l.x ! t)))
