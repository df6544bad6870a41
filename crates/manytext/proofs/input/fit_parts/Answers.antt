-- `manytext::fit_parts` meets its contract: the numbers stand in the front of an array of zeros. Assumes nothing.
use mathlib.Core.Path.{refl}
use Rattle.jobfit.specs.Done.{zeros}
use Rattle.manytext.proofs.Fitting.{parts_fit}
use Rattle.manytext.proofs.input.fit_parts.Goals as goal

pub returns : goal.returns
unfolding zeros
returns c = parts_fit _ _ _ _ _ _ _ c.read_doubles.ensures refl c.requires c.fit_read.ensures
