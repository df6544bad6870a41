-- `rounds::inner_at` meets its contract: the inner fit whose means `start_means` has just written is the rule's from the starting means.
use native.Mathlib.Omega.{arith}
use Rattle.base.proofs.Rows.{filled_part}
use Rattle.rule.specs.Lent.{given_in}
use Rattle.rounds.proofs.Started.{started}
use Rattle.rounds.proofs.starting.inner_at.Goals as goal

pub returns : goal.returns
returns c =
    let args = c.args in
    let given = given_in args.given.now in
    started args.start given args.wish args.phi args.limit _ args.r.now _ _ _ _ _ _ _
    c.mu_row-mu.ensures
    (filled_part _ args.given.now.design.n _ _ args.r.now c.start_means.new.out (omega (arith, c.mu_row-mu.ensures, c.raw_row-raw.ensures))
    (omega (arith, c.raw_row-raw.ensures, c.requires.asked.lent.rows_long)) c.start_means.auto.out
    c.start_means.ensures) c.inner_answer.ensures
