-- `manytext::fit_read` meets its contract: what is told of the job decides. Assumes nothing.
use Rattle.manytext.proofs.Fitting.{refused_read, accepted_read}
use Rattle.manytext.proofs.input.fit_read.Goals as goal

pub returns-in-Err : goal.returns-in-Err
returns-in-Err c = refused_read _ _ _ _ _ _ _ _ c.reading_of.ensures c.in-Err.is

pub returns-in-Ok : goal.returns-in-Ok
returns-in-Ok c = accepted_read _ _ _ _ _ _ _ _ _ _ c.reading_of.ensures c.in-Ok.is c.responses_in-responses.ensures c.fit_all.ensures
