-- `jobfit::fit_results` meets its contract: parts of arrays that are +0.0 are what is to be lent. Assumes nothing.
use mathlib.Core.Path.{◌∙◌}
use Rattle.model.specs.Inputs.{inputs_in}
use Rattle.jobfit.proofs.Lent.{beta_few, room_for, done_fresh}
use Rattle.jobfit.proofs.fronts.fit_results.Goals as goal

pub slice_bounds-beta-end : goal.slice_bounds-beta-end
slice_bounds-beta-end c = rw c.beta_length-width.ensures (beta_few c.args.settings _ c.requires.p)

pub fit_written-requires : goal.fit_written-requires
fit_written-requires c =
    room_for c.args.settings c.args.rows.now c.args.matrices.now c.args.terms.now c.args.results.now _ c.requires
    c.beta_length-width.ensures

pub returns : goal.returns
returns c =
    let args = c.args in
    c.fit_written.ensures
    ∙ done_fresh args.settings args.shape
    (inputs_in args.lists.now) args.rows.now args.matrices.now args.terms.now args.results.now _ c.requires c.beta_length-width.ensures
