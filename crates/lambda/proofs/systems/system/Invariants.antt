-- `lambda::system` meets its contract: before row a the rows before it are those of A.
use mathlib.Core.Path.{◌≡◌}
use Rattle.base.specs.List.{grid_to}
use Rattle.lambda.specs.Product.{system_at}
use Rattle.lambda.proofs.systems.system.Given as goal

abbrev pub invariant-loop-a : goal.invariant-loop-a
invariant-loop-a l = l.out ≡ grid_to l.a l.q (system_at l.shape l.theta l.k) l.initial.out
