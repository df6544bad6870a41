-- `many::verdict_fronts` meets its contract: parts from 0 on are the fronts. Assumes nothing.
use mathlib.Core.Path.{◌∙◌, ap}
use Rattle.model.specs.Inputs.{Inputs}
use Rattle.table.specs.Table.{table_of}
use Rattle.many.proofs.Asked.{fronts_many}
use Rattle.many.proofs.lent.verdict_fronts.Goals as goal

pub returns : goal.returns
returns c =
    let a = c.args in
    let l = a.lists.now in
    c.verdict_of.ensures
    ∙ ap (λ (I : Inputs). table_of a.responses a.header.settings a.shape I a.lent)
    (fronts_many a.header l.theta.now l.y.now l.weights.now l.offset.now l.x.now l.starts.now l.columns.now l.values.now)
