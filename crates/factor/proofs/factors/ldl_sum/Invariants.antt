-- `factor::ldl_sum` meets its contract: before turn k the sum is that of the first k terms, of which the zeros before `head` leave +0.0.
use mathlib.Core.Path.{◌≡◌}
use Prim.Native.Nat.{◌≤◌}
use Rattle.base.specs.Sum.{◌!◌, sum_to}
use Rattle.factor.specs.Factor.{ldl_term}
use Rattle.factor.proofs.factors.ldl_sum.Given as goal

abbrev pub invariant-loop-k : goal.invariant-loop-k
invariant-loop-k l = (l.k ≤ l.j) × (l.sum ≡ sum_to l.k (ldl_term l.s (λ t. l.x ! t) l.i l.j))
