-- `linear::effects_less` meets its contract: before turn i the first i places hold their entries of u.
use lib.ListN.{length-set}
use Rattle.base.proofs.Fills.{fill_none, fill_step}
use Rattle.linear.proofs.Columns.{effect_entry}
use native.Mathlib.Omega.{arith}
use Rattle.linear.proofs.product.effects_less.Goals as goal

pub loop-i-init : goal.loop-i-init
loop-i-init c = (omega arith, fill_none _ _)

pub loop-i-preserved : goal.loop-i-preserved
loop-i-preserved c = (simp length-set (omega arith), rw (effect_entry c.args.wy.now c.args.solved.now c.args.q c.args.p c.args.beta.now c.loop-i.i _ c.column_dot-sum.ensures) (fill_step _ _ _ _ c.loop-i.invariant.1))
