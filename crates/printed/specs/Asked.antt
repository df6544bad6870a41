-- The call that a sound job asks for: the table's verdict on it, and its fit. Assumes nothing.
use Rattle.model.specs.declared.ends.Refusal.{Refusal}
use Rattle.std.specs.Prelude.{Result}
use Rattle.std.specs.Prelude.{List, ℕ}
use Rattle.family.specs.declared.carried.CarriedFamily.{CarriedFamily}
use Rattle.family.specs.declared.carried.CarriedLink.{CarriedLink}
use Rattle.model.specs.Names.{limit_of}
use Rattle.rule.specs.Given.{Given}
use Rattle.table.specs.Table.{table_of}
use Rattle.dispersion.specs.Rounds.{Total, Dispersed}
use Rattle.job.specs.Job.{job_of}
use Rattle.call.specs.Fit.{Fitted, fit_of}
use Rattle.call.specs.Call.{lengths_of, call_given, call_means}
use Rattle.jobfit.specs.Done.{inputs_of}
use Rattle.output.specs.Output.{slices_for}

-- what the table says of a job's call
abbrev pub verdict_on : List ℕ → Result (CarriedFamily × CarriedLink) Refusal
verdict_on s = table_of 1 (job_of s).settings (job_of s).shape (inputs_of (job_of s)) (lengths_of (slices_for (job_of s).settings))

-- what its inner fits are given
abbrev pub given_by : CarriedFamily → CarriedLink → List ℕ → Given
given_by f l s = call_given f l (job_of s).settings (job_of s).shape (inputs_of (job_of s))

-- its fit
abbrev pub fit_for : CarriedFamily → CarriedLink → List ℕ → Total (Dispersed Fitted)
fit_for f l s = fit_of (given_by f l s) (call_means f l (job_of s).settings (job_of s).shape (inputs_of (job_of s))) (job_of s).settings.n_agq (limit_of (job_of s).settings.limit (job_of s).settings.link)
