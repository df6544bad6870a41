-- `quadrature::exp_sum` meets its contract: before turn i the sum is that of the first i terms.
use mathlib.Core.Path.{◌≡◌}
use Rattle.base.specs.Sum.{sum_to}
use Rattle.quadrature.specs.LogSum.{exp_term}
use Rattle.quadrature.proofs.logsum.exp_sum.Given as goal

abbrev pub invariant-loop-x : goal.invariant-loop-x
invariant-loop-x l = l.sum ≡ sum_to l.x-index (exp_term l.xs l.m)
