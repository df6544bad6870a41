-- `model::Answer::fitted` meets its contract: the record is the definition.
use mathlib.Core.Path.{refl}
use Rattle.model.specs.Answer.{fitted_answer}
use Rattle.model.proofs.ends.Answer.fitted.Goals as goal

pub returns : goal.returns
unfolding fitted_answer
returns c = refl
