-- `many::few_of` meets its contract: each arm returns what its test picks. Assumes nothing.
use Rattle.many.proofs.Asked.{few_all, few_most}
use Rattle.many.proofs.whole.few_of.Goals as goal

pub returns-then-responses-le64 : goal.returns-then-responses-le64
returns-then-responses-le64 c = few_all _ c.if-responses-le64.true

pub returns : goal.returns
returns c = few_most _ c.if-responses-le64.false
