-- `model::Answer::refused` meets its contract: it is the blank answer with the refusal's number and no counts, as the definition says.
use Rattle.model.specs.Answer.{refused_answer}
use Rattle.model.proofs.ends.Answer.refused.Goals as goal

pub returns : goal.returns
unfolding refused_answer
returns c = rw (c.blank.ensures, c.refusal_number-number.ensures, c.none-account.ensures)
