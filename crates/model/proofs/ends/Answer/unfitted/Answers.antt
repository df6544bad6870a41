-- `model::Answer::unfitted` meets its contract: it is the blank answer with the end's number and the account, as the definition says.
use Rattle.model.specs.Answer.{unfitted_answer}
use Rattle.model.proofs.ends.Answer.unfitted.Goals as goal

pub returns : goal.returns
unfolding unfitted_answer
returns c = rw (c.blank.ensures, c.end_number-number.ensures)
