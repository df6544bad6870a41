-- `rounds::fit_in` meets its contract: the fit is the dispersion loop where the dispersion is free, and one inner fit where it is not.
use mathlib.Core.Path.{sym, ◌∙◌}
use Rattle.rule.specs.Lent.{given_in}
use Rattle.rule.specs.Run.{start_means}
use Rattle.rounds.proofs.Ends.{free_left, fixed_left}
use Rattle.rounds.proofs.dispersing.fit_in.Goals as goal

pub returns-then-uses_dispersion : goal.returns-then-uses_dispersion
returns-then-uses_dispersion c =
    let args = c.args in
    let given = given_in args.given.now in
    free_left given (start_means args.start given) args.wish args.limit _ _ _ _ _ _ _
    (sym c.uses_dispersion.ensures ∙ c.if-uses_dispersion.true) c.dispersed_fit.ensures

pub returns : goal.returns
returns c =
    let args = c.args in
    let given = given_in args.given.now in
    fixed_left given (start_means args.start given) args.wish args.limit _ _ _ _ _ _ _
    (sym c.uses_dispersion.ensures ∙ c.if-uses_dispersion.false) c.fixed_fit.ensures
