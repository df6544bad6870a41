-- `factor::zeros_before` meets its contract: before turn k the first k terms are zeros, and one that is not settles it.
use native.Mathlib.Omega.{arith}
use Rattle.factor.proofs.ZeroTerms.{other, zeros_step}
use Rattle.factor.proofs.substitution.zeros_before.Goals as goal

pub returns-then-l-o : goal.returns-then-l-o
returns-then-l-o c = record { from = omega arith; to = omega arith; zeros = c.loop-k.invariant; stops = λ _. other _ c.if-l-o.true }

pub loop-k-preserved : goal.loop-k-preserved
loop-k-preserved c = zeros_step _ _ _ c.loop-k.invariant c.if-l-o.false
