-- `lambda::scale` meets its contract: before entry j the first j are multiplied, and the others still stand.
use mathlib.Core.Path.{◌≡◌}
use Rattle.base.specs.List.{fill_to}
use Rattle.lambda.specs.Parts.{scaled_at}
use Rattle.lambda.proofs.products.scale.Given as goal

abbrev pub invariant-loop-j : goal.invariant-loop-j
invariant-loop-j l = l.v ≡ fill_to l.j (scaled_at l.x l.initial.v) l.initial.v
