-- `rounds::dispersed_fit` meets its contract: what is left of the dispersion loop comes to what the whole does, and the account is that of the rounds done.
use mathlib.Core.Path.{sym, ◌∙◌}
use Rattle.rule.specs.Lent.{given_in}
use Rattle.rule.specs.Run.{start_means}
use Rattle.rounds.proofs.Going.{begun, sums_fit, end_spent, end_settled, turn_on}
use Rattle.rounds.proofs.dispersing.dispersed_fit.Goals as goal

pub loop-k-init : goal.loop-k-init
loop-k-init c =
    let args = c.args in
    let given = given_in args.given.now in
    begun given (start_means args.start given) args.wish args.limit _ _ _ _ _ c.none-account.ensures

pub plus-account-requires : goal.plus-account-requires
plus-account-requires c =
    let args = c.args in
    let given = given_in args.given.now in
    sums_fit given (start_means args.start given) args.wish args.limit _ _ _ _ _ _ _ _ _ _ _ _ _ c.loop-k.invariant _
    c.inner_at-a.ensures c.requires.asked.ready.good c.requires.limit_bound

pub returns-in-None : goal.returns-in-None
returns-in-None c =
    let args = c.args in
    let given = given_in args.given.now in
    rw (← c.effective_n-effective.ensures)
    (end_settled given (start_means args.start given) args.wish args.limit _ _ _ _ _ _ _ _ _ _ _ _ _ c.loop-k.invariant _
    c.inner_at-a.ensures c.loop-k-test.true _ _ (sym c.round_after.ensures ∙ c.in-None.is)
    c.plus-account.ensures c.fit_from.ensures)

pub loop-k-preserved : goal.loop-k-preserved
loop-k-preserved c =
    let args = c.args in
    let given = given_in args.given.now in
    turn_on given (start_means args.start given) args.wish args.limit _ _ _ _ _ _ _ _ _ _ _ _ _ c.loop-k.invariant _
    c.inner_at-a.ensures c.loop-k-test.true _ _ c.requires.asked.ready.good c.requires.limit_bound
    (sym c.round_after.ensures ∙ c.in-Some.is) c.plus-account.ensures

pub plus-account-requires-2 : goal.plus-account-requires-2
plus-account-requires-2 c =
    let args = c.args in
    let given = given_in args.given.now in
    sums_fit given (start_means args.start given) args.wish args.limit _ _ _ _ _ _ _ _ _ _ _ _ _ c.loop-k.invariant _
    c.inner_at-a-2.ensures c.requires.asked.ready.good c.requires.limit_bound

pub returns : goal.returns
returns c =
    let args = c.args in
    let given = given_in args.given.now in
    rw (← c.effective_n-effective.ensures)
    (end_spent given (start_means args.start given) args.wish args.limit _ _ _ _ _ _ _ _ _ _ _ _ _ c.loop-k.invariant _
    c.inner_at-a-2.ensures _ _ c.loop-k-test.false c.plus-account-2.ensures c.fit_from-2.ensures)
