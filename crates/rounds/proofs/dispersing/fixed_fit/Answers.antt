-- `rounds::fixed_fit` meets its contract: one inner fit at phi 1 is the whole fit.
use Rattle.rule.specs.Lent.{given_in}
use Rattle.rule.specs.Run.{start_means}
use Rattle.rounds.proofs.Ends.{fixed_ended}
use Rattle.rounds.proofs.dispersing.fixed_fit.Goals as goal

pub returns : goal.returns
returns c =
    let args = c.args in
    let given = given_in args.given.now in
    fixed_ended given (start_means args.start given) args.wish args.limit _ _ _ _ _ _ _ c.inner_at-a.ensures _
    c.fit_from.ensures
