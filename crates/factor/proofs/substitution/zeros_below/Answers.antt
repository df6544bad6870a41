-- `factor::zeros_below` meets its contract: before turn k the terms of the rows from i + 1 to k - 1 are zeros, and one that is not settles it.
use native.Mathlib.Omega.{arith}
use Rattle.factor.proofs.ZeroTerms.{other, zeros_step, down_test}
use Rattle.factor.proofs.substitution.zeros_below.Goals as goal

pub returns-then-l-o : goal.returns-then-l-o
returns-then-l-o c = record { from = omega arith; to = omega arith; zeros = c.loop-k.invariant.2; stops = λ _. other _ (down_test _ _ _ _ _ _ _ c.offset-o.ensures.0 c.if-l-o.true) }

pub loop-k-preserved : goal.loop-k-preserved
loop-k-preserved c = (omega arith, omega arith, zeros_step _ _ _ c.loop-k.invariant.2 (down_test _ _ _ _ _ _ _ c.offset-o.ensures.0 c.if-l-o.false))
