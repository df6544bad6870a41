-- `factor::backward_entry` meets its contract: the sum is the rule's, as zeros stand before `head`.
use Rattle.factor.proofs.SubstitutionSteps.{unit_backward_entry}
use Rattle.factor.proofs.sides.backward_entry.Goals as goal

pub returns : goal.returns
returns c = record { list = rw c.sum_further-sum.ensures (unit_backward_entry _ _ _ _); fine = c.is_finite.ensures }
