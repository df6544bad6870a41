-- `jobfit::fit_fronts` meets its contract: parts from 0 on are the fronts. Assumes nothing.
use mathlib.Core.Path.{◌∙◌}
use Rattle.jobfit.proofs.Lent.{done_parts}
use Rattle.jobfit.proofs.fronts.fit_fronts.Goals as goal

pub returns : goal.returns
returns c =
    let a = c.args in
    let l = a.lists.now in
    c.fit_results.ensures
    ∙ done_parts a.header a.shape l.theta.now l.y.now l.weights.now l.offset.now l.x.now l.starts.now l.columns.now
    l.values.now a.rows.now a.matrices.now a.terms.now a.results.now
