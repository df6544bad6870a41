-- `many::fit_fronts_many` meets its contract: the verdict is that on all responses, and what is accepted has room for each. Assumes nothing.
use Rattle.model.specs.Inputs.{inputs_in}
use Rattle.jobcall.specs.Told.{buffers}
use Rattle.many.specs.Room.{many_fronts}
use Rattle.many.proofs.Asked.{few_few, roomy_by}
use Rattle.many.proofs.Telling.{verdict_is, refused_told, fitted_told}
use Rattle.many.proofs.whole.fit_fronts_many.Goals as goal

pub lengths_for-lent-requires : goal.lengths_for-lent-requires
lengths_for-lent-requires c = (rw c.few_of-few.ensures (few_few _), c.requires.1.sizes)

pub fit_each-requires : goal.fit_each-requires
fit_each-requires c =
    let a = c.args in
    roomy_by a.responses a.header a.shape
    (inputs_in a.lists.now)
    (buffers a.rows.now a.matrices.now a.terms.now a.results.now a.counts.now) _ _
    (verdict_is a.responses a.header.settings a.shape
    (many_fronts a.header
    (inputs_in a.lists.now)) a.rows.now
    a.matrices.now a.terms.now a.results.now a.counts.now _ _ _ c.few_of-few.ensures c.lengths_for-lent.ensures
    c.verdict_fronts-verdict.ensures _ c.in-Ok.is) c.requires.1

pub returns-in-Err : goal.returns-in-Err
returns-in-Err c =
    let a = c.args in
    refused_told a.responses a.header.settings a.shape
    (many_fronts a.header
    (inputs_in a.lists.now)) a.rows.now
    a.matrices.now a.terms.now a.results.now a.counts.now _ _ _ c.few_of-few.ensures c.lengths_for-lent.ensures
    c.verdict_fronts-verdict.ensures _ _ _ c.in-Err.is c.refusal_number-number.ensures
    c.put_refusal.ensures

pub returns-in-Ok : goal.returns-in-Ok
returns-in-Ok c =
    let a = c.args in
    fitted_told a.responses a.header.settings a.shape
    (many_fronts a.header
    (inputs_in a.lists.now)) a.rows.now
    a.matrices.now a.terms.now a.results.now a.counts.now _ _ _ c.few_of-few.ensures c.lengths_for-lent.ensures
    c.verdict_fronts-verdict.ensures _ _ _ c.in-Ok.is c.fit_each.ensures
