-- `pirls::inner_fit` meets its contract: what is left of the rule's run ends as the whole does, and what was counted is what was done.
use mathlib.Core.Path.{sym, ap, ◌∙◌}
use native.Mathlib.Omega.{arith}
use Rattle.layout.proofs.LaidOut.{lent_kept}
use Rattle.iteration.specs.Iterated.{tries_made}
use Rattle.pirls.proofs.Fitted.{begun, end_spent, end_unsolved, end_stuck, counted_fits, turn_on, end_stopped}
use Rattle.pirls.proofs.run.inner_fit.Goals as goal

pub loop-k-init : goal.loop-k-init
loop-k-init c =
    let g = c.args.given.now in
    let d = g.design in
    begun g.family g.link c.args.phi c.args.limit d.n d.p d.q d.shape d.theta.now d.offset.now
    d.x.now g.y.now g.weights.now _ c.requires.asked.ready.effects _ _ _ _ _ c.requires.asked.lent c.mu_row.ensures
    c.start_eta.ensures _ c.one_fit-account.ensures

pub returns-in-Unsolvable : goal.returns-in-Unsolvable
returns-in-Unsolvable c =
    let g = c.args.given.now in
    let d = g.design in
    end_unsolved g.family g.link c.args.phi c.args.limit d.n d.p d.q d.shape d.theta.now d.offset.now
    d.x.now g.y.now g.weights.now _ c.requires.asked.ready.effects _ _ _ _ _ c.requires.asked.lent c.mu_row.ensures
    c.start_eta.ensures _ _ _ _ _ _ _ c.loop-k.invariant _ _ _ _ c.loop-k-test.true c.iterate.ensures _ _
    c.in-Unsolvable.is c.failed_fit.ensures

pub with_solve-requires : goal.with_solve-requires
with_solve-requires c =
    counted_fits _ _ _ c.iterate.result (omega (arith, c.loop-k-test.true, c.requires.limit_bound)) c.loop-k.invariant.few c.iterate.ensures.few
    (ap tries_made c.in-Stuck.is)

pub returns-in-Stuck : goal.returns-in-Stuck
returns-in-Stuck c =
    let g = c.args.given.now in
    let d = g.design in
    end_stuck g.family g.link c.args.phi c.args.limit d.n d.p d.q d.shape d.theta.now d.offset.now
    d.x.now g.y.now g.weights.now _ c.requires.asked.ready.effects _ _ _ _ _ c.requires.asked.lent c.mu_row.ensures
    c.start_eta.ensures _ _ _ _ _ _ _ c.loop-k.invariant _ _ _ _ c.loop-k-test.true c.iterate.ensures _ _ _
    c.in-Stuck.is c.with_solve.ensures c.failed_fit-in-Stuck.ensures

pub with_solve-account-requires : goal.with_solve-account-requires
with_solve-account-requires c =
    counted_fits _ _ _ c.iterate.result (omega (arith, c.loop-k-test.true, c.requires.limit_bound)) c.loop-k.invariant.few c.iterate.ensures.few
    (ap tries_made c.in-Moved.is)

pub returns-then-stops : goal.returns-then-stops
returns-then-stops c =
    let g = c.args.given.now in
    let d = g.design in
    end_stopped g.family g.link c.args.phi c.args.limit d.n d.p d.q d.shape d.theta.now d.offset.now
    d.x.now g.y.now g.weights.now _ c.requires.asked.ready.effects _ _ _ _ _ c.requires.asked.lent c.mu_row.ensures
    c.start_eta.ensures _ _ _ _ _ _ _ c.loop-k.invariant _ _ _ _ c.loop-k-test.true c.iterate.ensures _ _ _ c.in-Moved.is
    c.with_solve-account.ensures _ _ _ _ (sym c.stops.ensures ∙ c.if-stops.true)
    (lent_kept c.requires.asked.lent
    (c.iterate.auto.r ∙ (c.loop-k.invariant.rows_only.len ∙ c.start_eta.ensures.only.len))
    (c.iterate.auto.m ∙ c.loop-k.invariant.matrices_only.len)
    (c.iterate.auto.t ∙ c.loop-k.invariant.terms_only.len)) c.stop-s.ensures
    c.stopped_fit.ensures

pub loop-k-preserved : goal.loop-k-preserved
loop-k-preserved c =
    let g = c.args.given.now in
    let d = g.design in
    turn_on g.family g.link c.args.phi c.args.limit d.n d.p d.q d.shape d.theta.now d.offset.now
    d.x.now g.y.now g.weights.now _ c.requires.asked.ready.effects _ _ _ _ _ c.requires.asked.lent c.mu_row.ensures
    c.start_eta.ensures _ _ _ _ _ _ _ c.loop-k.invariant _ _ _ _ c.loop-k-test.true c.iterate.ensures _ _ _ c.in-Moved.is
    c.with_solve-account.ensures (sym c.stops.ensures ∙ c.if-stops.false)

pub returns : goal.returns
returns c =
    let g = c.args.given.now in
    let d = g.design in
    end_spent g.family g.link c.args.phi c.args.limit d.n d.p d.q d.shape d.theta.now d.offset.now
    d.x.now g.y.now g.weights.now _ c.requires.asked.ready.effects _ _ _ _ _ c.requires.asked.lent c.mu_row.ensures
    c.start_eta.ensures _ _ _ _ _ _ _ c.loop-k.invariant _ (omega arith) c.failed_fit-2.ensures
