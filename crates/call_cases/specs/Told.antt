-- What a call tells: its answer and the nine results that it leaves. Assumes nothing.
use Rattle.model.specs.declared.ends.Answer.{Answer}
use Rattle.results.specs.Nine.{Results}
use Rattle.call.specs.Call.{Left}

-- all that is compared
pub record Told : Type 0 where
  pub answer : Answer
  pub results : Results

-- of what a call leaves
unfoldable pub told_of : Left → Told
told_of l = record { answer = l.answer; results = l.lent.results }
