-- `linear::products` meets its contract: before turn i the first i places hold the products.
use lib.ListN.{length-set}
use Rattle.base.proofs.Fills.{fill_none, fill_step}
use native.Mathlib.Omega.{arith}
use Rattle.linear.proofs.product.products.Goals as goal

pub loop-i-init : goal.loop-i-init
loop-i-init c = (omega arith, fill_none _ _)

pub loop-i-preserved : goal.loop-i-preserved
loop-i-preserved c = (simp length-set (omega arith), fill_step _ _ _ _ c.loop-i.invariant.1)
