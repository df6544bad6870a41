-- `manytext::fit_all` meets its contract: an accepted call returns 0, any other its refusal. Assumes nothing.
use Rattle.jobfit.specs.Done.{zeros}
use Rattle.manytext.specs.Pieces.{fit_all_of}
use Rattle.manytext.proofs.Fitting.{accepted_left, refused_left}
use Rattle.manytext.proofs.input.fit_all.Goals as goal

pub returns-then-number-eq0 : goal.returns-then-number-eq0
unfolding fit_all_of zeros
returns-then-number-eq0 c = accepted_left _ _ _ _ _ c.fit_many-number.ensures c.if-number-eq0.true

pub returns : goal.returns
unfolding fit_all_of zeros
returns c = refused_left _ _ _ _ _ c.fit_many-number.ensures c.if-number-eq0.false
