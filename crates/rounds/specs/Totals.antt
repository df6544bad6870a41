-- What is made of an inner fit: what follows it, and the fit where it is the last. Document 01, "The inner fit", on dispersion, and "Numbers of an answer"; document 02, P5. Assumes nothing.
use Rattle.model.specs.declared.ends.End.{End}
use Rattle.std.specs.Prelude.{Option, None, Result, Ok, Err}
use Rattle.std.specs.Prelude.{Bool, true, false, Float}
use Rattle.model.specs.Answer.{unfitted_answer, fitted_answer}
use Rattle.model.specs.declared.counts.Account.{Account}
use Rattle.dispersion.specs.Phi.{round_of}
use Rattle.inner.specs.declared.answers.Answered.{Answered}
use Rattle.rounds.specs.declared.totals.Fit.{Fit}

-- without a result there is no other round
unfoldable pub round_after : Result Answered End → Float → Float → Option Float
round_after (Ok a) effective phi = round_of effective phi a.deviance_sum
round_after (Err e) effective phi = None

-- the fit whose last inner fit ended so: at this phi, with this flag and this account
unfoldable pub fit_from : Result Answered End → Float → Bool → Account → Fit
fit_from (Ok a) phi flag account =
    record { fitted = true; in_second = a.in_second; answer = fitted_answer a.deviance phi a.order a.why flag a.iterations account }
fit_from (Err e) phi flag account = record { fitted = false; in_second = false; answer = unfitted_answer e account }
