-- `factor::row_head` meets its contract: before turn k the first k entries of the row are zeros, and one that is not settles it.
use mathlib.Core.Path.{◌≡◌}
use mathlib.Core.Bool.{true}
use Rattle.base.specs.List.{at}
use Rattle.factor.specs.Heads.{Zeros}
use Rattle.factor.proofs.sides.row_head.Given as goal

abbrev pub invariant-loop-k : goal.invariant-loop-k
invariant-loop-k l = (l.allowed ≡ true) × Zeros 0 l.k (λ j. at l.s l.l l.i j)
