-- `manytext::fit_input` meets its contract: its parts are the job and what stands behind it. Assumes nothing.
use mathlib.Core.Path.{refl}
use Rattle.manytext.proofs.Fitting.{input_fit}
use Rattle.manytext.proofs.input.fit_input.Goals as goal

pub returns : goal.returns
returns c = input_fit _ _ _ _ _ _ c.least-from.ensures c.job_size-size.ensures.0 refl c.least-held.ensures refl _ _ _ c.fit_parts.ensures
