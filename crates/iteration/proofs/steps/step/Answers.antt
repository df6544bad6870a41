-- `iteration::step` meets its contract: the tries are handed the rows that the layout names.
use Rattle.iteration.proofs.StepMade.{step_room, stepped}
use Rattle.iteration.proofs.steps.step.Goals as goal

pub tries-requires : goal.tries-requires
tries-requires c =
    step_room c.args.n c.args.p c.args.q c.args.in_second _ _ _ _ _ _ _ _ _ _ _ _ c.requires c.eta_row-prev.ensures
    c.eta_row-next.ensures c.raw_row-raw.ensures c.mu_row-mu.ensures c.u_at-u.ensures c.b_at-b.ensures c.w_at-w.ensures
    c.z_at-z.ensures c.unsolved_at-unsolved.ensures

pub returns : goal.returns
returns c =
    stepped c.args.n c.args.p c.args.q c.args.in_second _ _ _ _ _ _ _ _ _ _ _ _ c.requires c.eta_row-prev.ensures
    c.eta_row-next.ensures c.raw_row-raw.ensures c.mu_row-mu.ensures c.u_at-u.ensures c.b_at-b.ensures c.w_at-w.ensures
    c.z_at-z.ensures c.unsolved_at-unsolved.ensures _ _ _ c.tries.ensures
