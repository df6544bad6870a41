-- `iteration::iterate` meets its contract: weights, solve and tries are each the rule's.
use Rattle.iteration.proofs.IterationMade.{iterate_unsolvable, iterate_stuck, iterate_moved}
use Rattle.iteration.proofs.iterates.iterate.Goals as goal

pub returns-in-Err : goal.returns-in-Err
returns-in-Err c =
    let g = c.args.given.now in
    let d = g.design in
    iterate_unsolvable g.family g.link c.args.phi d.n d.p d.q d.shape d.theta.now d.offset.now d.x.now
    g.y.now g.weights.now _ c.args.in_second _ _ _ _ _ _ _ _ _ c.requires.asked.ready.effects c.requires.asked.lent c.weigh.ensures
    c.solve_into-solving.ensures _ c.in-Err.is

pub returns-in-Ok : goal.returns-in-Ok
returns-in-Ok c =
    let g = c.args.given.now in
    let d = g.design in
    iterate_moved g.family g.link c.args.phi d.n d.p d.q d.shape d.theta.now d.offset.now d.x.now
    g.y.now g.weights.now _ c.args.in_second _ _ _ _ _ _ _ _ _ c.requires.asked.ready.effects c.requires.asked.lent c.weigh.ensures
    c.solve_into-solving.ensures _ _ _ _ c.in_default.is c.in-Ok.is c.step.ensures

pub returns-in-Err-step : goal.returns-in-Err-step
returns-in-Err-step c =
    let g = c.args.given.now in
    let d = g.design in
    iterate_stuck g.family g.link c.args.phi d.n d.p d.q d.shape d.theta.now d.offset.now d.x.now
    g.y.now g.weights.now _ c.args.in_second _ _ _ _ _ _ _ _ _ c.requires.asked.ready.effects c.requires.asked.lent c.weigh.ensures
    c.solve_into-solving.ensures _ _ _ c.in_default.is c.in-Err-step.is c.step.ensures
