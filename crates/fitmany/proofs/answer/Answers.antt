-- `fitmany::answer` is safe: what the call leaves of zeros can be written piece by piece. Assumes nothing.
use Rattle.jobfit.specs.Done.{zeros}
use Rattle.manytext.proofs.Printed.{left_fit}
use borrow.Author.Rules.{rules}
use Rattle.fitmany.proofs.answer.Goals as goal

pub put_pieces-requires : goal.put_pieces-requires
unfolding zeros
put_pieces-requires c = (search rules, left_fit _ _ _ _ c.fit_input-pieces.ensures)
