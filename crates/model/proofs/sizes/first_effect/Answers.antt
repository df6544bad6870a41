-- `model::first_effect` meets its contract: the sum so far is that of the blocks passed, and at every turn at most 32.
use native.Mathlib.Omega.{arith}
use Rattle.model.proofs.Totals.{total_none}
use Rattle.model.proofs.Shapes.{in_range_lem, effects_small, effect_step}
use Rattle.model.proofs.sizes.first_effect.Goals as goal

pub loop-i-init : goal.loop-i-init
loop-i-init c = (omega (arith, (in_range_lem c.args.shape c.requires.0).few), total_none _)

pub overflow_mul-q : goal.overflow_mul-q
overflow_mul-q c = omega (arith, effects_small c.args.shape (in_range_lem _ c.requires.0) c.loop-i.i (omega arith))

pub overflow_add-q : goal.overflow_add-q
overflow_add-q c = omega (arith, effects_small c.args.shape (in_range_lem _ c.requires.0) c.loop-i.i (omega arith))

pub loop-i-preserved : goal.loop-i-preserved
loop-i-preserved c = (omega arith, effect_step _ _ _ c.loop-i.invariant.1)
