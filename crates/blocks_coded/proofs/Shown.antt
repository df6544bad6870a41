-- What is left of a call, and its answer in plain numbers. Assumes nothing.
use mathlib.Core.Path.{◌≡◌, ap, ◌∙◌}
use Rattle.model.specs.declared.ends.Answer.{Answer}
use Rattle.call.specs.Call.{Lent, Left, left}
use Rattle.blocks_coded.specs.Plain.{plain_of, shown, shown_by}
use Rattle.blocks_coded.specs.declared.PlainAnswer.{PlainAnswer}

pub shown_by_lem : (t : PlainAnswer) (r : Answer) (L : Lent) (l : Left) → t ≡ plain_of r → left r L ≡ l → shown t L ≡ shown_by l
unfolding shown_by
shown_by_lem t r L l e d = ap (λ (x : PlainAnswer). shown x L) e ∙ ap shown_by d
