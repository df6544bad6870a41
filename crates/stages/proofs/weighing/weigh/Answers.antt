-- `stages::weigh` meets its contract: the predictor's row gives w and z, and their rows what X and Z are fitted to.
use Rattle.stages.proofs.HeldRows.{parts_met}
use Rattle.stages.proofs.WeighedRows.{weighed_made}
use Rattle.stages.proofs.weighing.weigh.Goals as goal

pub working_rows-requires-clause-met : goal.working_rows-requires-clause-met
working_rows-requires-clause-met c = λ e.
    parts_met c.args.n c.args.in_second _ _ _ _ c.args.r.now c.second_eta_row-second.ensures c.mu_row-mu.ensures
    c.raw_row-raw.ensures c.requires.weigh_room.rows_long c.holder-eta.ensures c.args.link (c.requires.met e)

pub returns : goal.returns
returns c =
    let args = c.args in
    weighed_made args.family args.link args.phi args.y.now args.weights.now args.offset.now args.n args.q args.in_second _ _ _ _ _
    _ _ _ _ args.r.now _ args.t.now c.working_rows.new.t c.second_eta_row-second.ensures
    c.mu_row-mu.ensures c.raw_row-raw.ensures c.w_at-w.ensures c.z_at-z.ensures c.unsolved_at-unsolved.ensures
    c.weighted_row-weighted.ensures c.working_row-working.ensures c.requires.weigh_room c.holder-eta.ensures c.working_rows.ensures
    c.targets_into.ensures
