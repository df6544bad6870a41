-- `model::first_theta` meets its contract: the sum so far is that of the blocks passed, and at every turn at most 288.
use native.Mathlib.Omega.{arith}
use Rattle.model.proofs.Totals.{total_none}
use Rattle.model.proofs.Shapes.{in_range_lem, thetas_twice, thetas_small, theta_step}
use Rattle.model.proofs.sizes.first_theta.Goals as goal

pub loop-i-init : goal.loop-i-init
loop-i-init c = (omega (arith, (in_range_lem c.args.shape c.requires.0).few), total_none _)

pub overflow_add-t : goal.overflow_add-t
overflow_add-t c = omega (arith, thetas_twice c.args.shape (in_range_lem _ c.requires.0) c.loop-i.i (omega arith))

pub overflow_mul-t : goal.overflow_mul-t
overflow_mul-t c = omega (arith, thetas_twice c.args.shape (in_range_lem _ c.requires.0) c.loop-i.i (omega arith))

pub overflow_add-t-in-loop-i : goal.overflow_add-t-in-loop-i
overflow_add-t-in-loop-i c = omega (arith, thetas_small c.args.shape (in_range_lem _ c.requires.0) c.loop-i.i (omega arith))

pub loop-i-preserved : goal.loop-i-preserved
loop-i-preserved c = (omega arith, theta_step _ _ _ c.loop-i.invariant.1)
