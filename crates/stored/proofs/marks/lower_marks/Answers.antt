-- `stored::lower_marks` meets its contract: before entry k the marks of the entries before it are lowered.
use Rattle.stored.proofs.Apart.{lowered_none, lowered_step, min_lesser}
use Rattle.stored.proofs.marks.lower_marks.Goals as goal

pub loop-k-init : goal.loop-k-init
loop-k-init c = lowered_none _ _ _ _

pub loop-k-preserved : goal.loop-k-preserved
loop-k-preserved c = rw (c.min.ensures, min_lesser) (lowered_step _ _ _ _ _ _ c.loop-k.auto.k c.loop-k.invariant)
