-- `quadrature::capped` meets its contract: what is left to choose among is always what the first order's choice was.
use mathlib.Core.Path.{◌≡◌}
use Rattle.quadrature.specs.Orders.{size_of, down_from, first_within, capped_from}
use Rattle.quadrature.proofs.orders.capped.Given as goal

abbrev pub invariant-loop-at : goal.invariant-loop-at
invariant-loop-at l = first_within l.cap l.dims (down_from l.at) ≡ capped_from l.cap l.dims l.initial.at

abbrev pub decreases-loop-at : goal.decreases-loop-at
decreases-loop-at l = size_of l.at
