-- `manytext::answer_from` meets its contract: every count is read from its place. Assumes nothing.
use mathlib.Core.Path.{refl}
use Rattle.manytext.specs.Text.{answer_from}
use Rattle.manytext.proofs.texts.answer_from.Goals as goal

pub returns : goal.returns
unfolding answer_from
returns c = refl
