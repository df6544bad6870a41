-- `factor::next_head` meets its contract: the head moves where all three tests hold.
use Rattle.factor.proofs.LdlHeads.{next_grown, next_other, next_apart, next_barred}
use Rattle.factor.proofs.factors.next_head.Goals.{else-allowed-via-then-allowed+then-head-j+else-l, else-allowed-via-then-allowed+else-head-j, else-allowed-via-else-allowed}
use Rattle.factor.proofs.factors.next_head.Goals as goal

pub returns-then-l : goal.returns-then-l
returns-then-l c = next_grown _ _ _ _ c.if-allowed.true c.if-head-j.true c.if-l.true

pub returns-else-allowed : goal.returns-else-allowed
returns-else-allowed c = elim c.else-allowed.branch [
  | else-allowed-via-then-allowed+then-head-j+else-l w ↦ next_other _ _ _ _ w.if-l.false
  | else-allowed-via-then-allowed+else-head-j w ↦ next_apart _ _ _ _ w.if-head-j.false
  | else-allowed-via-else-allowed w ↦ next_barred _ _ _ _ w.if-allowed.false
]
