-- `pirls::inner_fit` meets its contract: what is left of the rule's run ends as the whole does, and what was counted is what was done.
use Rattle.base.specs.Rows.{row}
use Rattle.layout.specs.WorkRows.{mu_row}
use Rattle.rule.specs.Lent.{given_in}
use Rattle.pirls.proofs.Turns.{Going}
use Rattle.pirls.proofs.run.inner_fit.Given as goal

abbrev pub invariant-loop-k : goal.invariant-loop-k
invariant-loop-k l = Going (given_in l.given) l.phi l.limit (row (mu_row l.given.design.n) l.given.design.n l.initial.r) l.initial.r l.r l.initial.m l.m l.initial.t l.t l.old
    l.in_second l.k l.account
