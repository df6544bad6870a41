-- `quadrature::within_cap` meets its contract: before turn i the power is size^i, and one that has passed the cap stays past it.
use native.Mathlib.Omega.{arith}
use Rattle.quadrature.specs.Orders.{within_cap}
use Rattle.quadrature.proofs.Powers.{power_none, power_step, power_past, power_small}
use mathlib.Core.Path.{◌≡◌}
use Rattle.quadrature.proofs.orders.within_cap.Goals as goal

pub loop-turn-init : goal.loop-turn-init
loop-turn-init c = (power_none _, omega arith)

pub returns-then-cap-power : goal.returns-then-cap-power
returns-then-cap-power c = power_past _ _ _ _ _ c.requires.0 (omega arith) c.loop-turn.invariant.0 c.if-cap-power.true

pub overflow_mul-power : goal.overflow_mul-power
overflow_mul-power c = omega (arith, power_small c.args.size c.args.cap c.loop-turn.power c.requires.1 c.requires.2 c.if-cap-power.false)

pub loop-turn-preserved : goal.loop-turn-preserved
loop-turn-preserved c = (power_step _ _ _ c.loop-turn.invariant.0, power_small c.args.size c.args.cap c.loop-turn.power c.requires.1 c.requires.2 c.if-cap-power.false)

pub returns : goal.returns
unfolding within_cap
returns c = let e : c.loop-turn._turn ≡ c.args.dims = omega arith in rw (c.loop-turn.invariant.0, e)
