-- `many::fit_response` meets its contract: the parts that it lends are those of response i, and they come back in their places. Assumes nothing.
use mathlib.Core.Path.{refl}
use Rattle.many.proofs.Placing.{response_done}
use Rattle.many.proofs.responses.fit_response.Goals as goal

pub returns : goal.returns
returns c =
    let a = c.args in
    let l = a.lists.now in
    response_done a.header a.shape l.theta.now l.y.now l.weights.now l.offset.now l.x.now l.starts.now l.columns.now
    l.values.now a.i _ _ _ refl c.offset-from.ensures.0 refl _ _ _ _ _ c.results_length-block.ensures c.offset-first.ensures.0 refl
    c.offset-at.ensures.0 refl _ _ _ _ _ _ _ _ _ _ _ c.fit_fronts-answer.ensures c.put_counts.ensures
