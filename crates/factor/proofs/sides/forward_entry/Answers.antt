-- `factor::forward_entry` meets its contract: the sum is the rule's, as zeros stand before `head`.
use native.Mathlib.Omega.{arith}
use Rattle.factor.proofs.SubstitutionSteps.{across_products, unit_forward_entry}
use Rattle.factor.proofs.sides.forward_entry.Goals as goal

pub sum_behind-sum-requires : goal.sum_behind-sum-requires
sum_behind-sum-requires c =
    let a = c.args in
    let offset = c.offset-o in
    (omega arith, omega arith, omega arith, across_products a.s a.l.now a.i offset.result a.x.now offset.ensures.0 a.head c.requires.4)

pub returns : goal.returns
returns c = record { list = rw c.sum_behind-sum.ensures (unit_forward_entry _ _ _ _ _ c.offset-o.ensures.0); fine = c.is_finite.ensures }
