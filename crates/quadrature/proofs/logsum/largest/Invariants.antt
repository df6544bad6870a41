-- `quadrature::largest` meets its contract: before turn i it is the largest of the first i.
use mathlib.Core.Path.{◌≡◌}
use Rattle.quadrature.specs.LogSum.{max_to}
use Rattle.quadrature.proofs.logsum.largest.Given as goal

abbrev pub invariant-loop-x : goal.invariant-loop-x
invariant-loop-x l = l.m ≡ max_to l.x-index l.xs
