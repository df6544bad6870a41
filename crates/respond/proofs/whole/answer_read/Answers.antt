-- `respond::answer_read` meets its contract: with room for all results the call is the one that the job asks for, and its lists are found again. Assumes nothing.
use Rattle.respond.proofs.Found.{read_response}
use Rattle.respond.proofs.whole.answer_read.Goals as goal

pub returns : goal.returns
returns c = read_response _ _ _ _ _ _ _ _ _ _ _ _ c.requires.1.sizes c.fit_fronts-answer.ensures c.put_flat.ensures
