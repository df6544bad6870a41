-- `rounds::dispersed_fit` meets its contract: what is left of the dispersion loop comes to what the whole does, and the account is that of the rounds done.
use Rattle.rule.specs.Lent.{given_in}
use Rattle.rule.specs.Run.{start_means}
use Rattle.rounds.proofs.Going.{Going}
use Rattle.rounds.proofs.dispersing.dispersed_fit.Given as goal

abbrev pub invariant-loop-k : goal.invariant-loop-k
invariant-loop-k l = Going (given_in l.given)
    (start_means l.start (given_in l.given)) l.wish l.limit l.effective l.initial.r l.r l.initial.m l.m l.initial.t l.t l.phi l.account l._k
