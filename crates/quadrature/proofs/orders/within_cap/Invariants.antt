-- `quadrature::within_cap` meets its contract: before turn i the power is size^i, and one that has passed the cap stays past it.
use mathlib.Core.Path.{◌≡◌}
use Prim.Native.Nat.{◌≤◌, ◌^◌}
use Rattle.quadrature.proofs.orders.within_cap.Given as goal

abbrev pub invariant-loop-turn : goal.invariant-loop-turn
invariant-loop-turn l = (l.power ≡ l.size ^ l._turn) × (l.power ≤ 77000)
