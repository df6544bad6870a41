-- `stored::least_mark` meets its contract: before entry k it is the least mark of the entries before it.
use Rattle.stored.proofs.Apart.{least_none, least_step, min_lesser}
use Rattle.stored.proofs.marks.least_mark.Goals as goal

pub loop-k-init : goal.loop-k-init
loop-k-init c = least_none _ _ _

pub loop-k-preserved : goal.loop-k-preserved
loop-k-preserved c = rw (c.min-least.ensures, min_lesser) (least_step _ _ _ _ _ c.loop-k.auto.k c.loop-k.invariant)
