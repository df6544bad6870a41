-- `many::beta_for` meets its contract: each arm returns what its test picks. Assumes nothing.
use Rattle.many.proofs.Asked.{no_results, no_counts_lem, all_room}
use Rattle.many.proofs.lent.beta_for.Goals as goal

pub returns-then-results-asked : goal.returns-then-results-asked
returns-then-results-asked c = let a = c.args in no_results a.responses a.settings a.results a.counts _ c.results_length-block.ensures c.if-results-asked.true

pub returns-then-counts-told : goal.returns-then-counts-told
returns-then-counts-told c =
    let a = c.args in
    no_counts_lem a.responses a.settings a.results a.counts _ c.results_length-block.ensures c.if-results-asked.false c.if-counts-told.true

pub returns : goal.returns
returns c =
    let a = c.args in
    all_room a.responses a.settings a.results a.counts _ c.results_length-block.ensures c.if-results-asked.false
    c.if-counts-told.false
