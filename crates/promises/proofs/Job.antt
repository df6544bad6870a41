-- The functions of libglmm_c.a, with their parameters in the order of include/glmm.h: those that glmm_c's exports call, whose contracts are theirs (`glmm_c`'s proofs/Same). Assumes nothing.
use mathlib.Core.Path.{◌≡◌, refl}
use seplogic.Ra.Ura.{Ura}
use base.Logic.{SProp}
use prog.Memory.{Memory}
use prog.Routine.{Routine}
use types.Logic.{Logic}
use contract.Monad.{Fun}
use Rattle.elementary.specs.Exp.{exp_of}
use Rattle.elementary.specs.Expm1.{expm1_of}
use Rattle.elementary.specs.Log.{ln_of}
use Rattle.elementary.specs.Log1p.{ln1p_of}
use Rattle.log_gamma.specs.LogGamma.{ln_gamma_of}
use Rattle.normal.specs.Normal.{norm_cdf, norm_pdf}
use Rattle.normal.specs.Quantile.{norm_quantile}
use Rattle.root.specs.Sqrt.{sqrt_of}
use Rattle.layout.specs.WorkTerms.{terms_length}
use Rattle.jobcall.specs.Told.{buffers, told, fit_job_of, fit_job_theta_of}
use Rattle.many.specs.Many.{fit_many_of}
use Rattle.lengths.specs.Asked.{rows_asked, matrices_asked}
use Rattle.jobcall.specs.Results.{results_asked}
use Rattle.elementary.specs.contracts.exp as exp
use Rattle.elementary.specs.contracts.exp_m1 as exp-m1
use Rattle.elementary.specs.contracts.ln as ln
use Rattle.elementary.specs.contracts.ln_1p as ln-1p
use Rattle.log_gamma.specs.contracts.ln_gamma as ln-gamma
use Rattle.normal.specs.contracts.norm_cdf as norm-cdf
use Rattle.normal.specs.contracts.norm_pdf as norm-pdf
use Rattle.normal.specs.contracts.norm_quantile as norm-quantile
use Rattle.root.specs.contracts.sqrt as sqrt
use Rattle.lengths.specs.contracts.rows_asked as rows-length
use Rattle.lengths.specs.contracts.matrices_asked as matrices-length
use Rattle.layout.specs.contracts.terms_length as terms_length_lem
use Rattle.jobcall.specs.contracts.results_asked as results-length
use Rattle.jobcall.specs.contracts.fit_job as fit-job
use Rattle.jobcall.specs.contracts.fit_job_theta as fit-job-theta
use Rattle.many.specs.contracts.fit_many as fit-many
use Rattle.promises.specs.Promise.{Fact, promise}

-- what is returned and left of the five buffers, for a job with its own theta
abbrev fit_job : Fact fit-job.ended
fit_job κs (job, (rows, (matrices, (terms, (results, (counts, _)))))) r (_, (rows', (matrices', (terms', (results', (counts', _)))))) =
    told r (buffers rows'.now matrices'.now terms'.now results'.now counts'.now) ≡ fit_job_of job.now (buffers rows.now matrices.now terms.now results.now counts.now)

-- and at the theta beside it
abbrev fit_job_theta : Fact fit-job-theta.ended
fit_job_theta κs (job, (theta, (rows, (matrices, (terms, (results, (counts, _))))))) r (_, (_, (rows', (matrices', (terms', (results', (counts', _))))))) =
    told r (buffers rows'.now matrices'.now terms'.now results'.now counts'.now) ≡ fit_job_theta_of job.now theta.now (buffers rows.now matrices.now terms.now results.now counts.now)

-- for so many responses beside a job
abbrev fit_many : Fact fit-many.ended
fit_many κs (job, (responses, (count, (rows, (matrices, (terms, (results, (counts, _)))))))) r (_, (_, (_, (rows', (matrices', (terms', (results', (counts', _)))))))) =
    told r (buffers rows'.now matrices'.now terms'.now results'.now counts'.now) ≡ fit_many_of job.now responses.now count (buffers rows.now matrices.now terms.now results.now counts.now)

module _ {M : Type 1} {𝓤 : Ura M} (𝓛 : Logic 𝓤) (mem : Memory → SProp 𝓤) (run : Routine → Fun 𝓤) where
  pub rows_length_promised : rows-length.clauses 𝓛 mem run ≡ promise 𝓤 rows-length.ended (λ κs a r e. r ≡ rows_asked a.0)
  rows_length_promised = refl

  pub matrices_length_promised : matrices-length.clauses 𝓛 mem run ≡ promise 𝓤 matrices-length.ended (λ κs a r e. r ≡ matrices_asked a.0 a.1.0)
  matrices_length_promised = refl

  pub terms_length_promised : terms_length_lem.clauses 𝓛 mem run ≡ promise 𝓤 terms_length_lem.ended (λ κs a r e. r ≡ terms_length)
  terms_length_promised = refl

  pub results_length_promised : results-length.clauses 𝓛 mem run ≡ promise 𝓤 results-length.ended (λ κs a r e. r ≡ results_asked a.0 a.1.0 a.1.1.0)
  results_length_promised = refl

  pub fit_job_promised : fit-job.clauses 𝓛 mem run ≡ promise 𝓤 fit-job.ended fit_job
  fit_job_promised = refl

  pub fit_job_theta_promised : fit-job-theta.clauses 𝓛 mem run ≡ promise 𝓤 fit-job-theta.ended fit_job_theta
  fit_job_theta_promised = refl

  pub fit_many_promised : fit-many.clauses 𝓛 mem run ≡ promise 𝓤 fit-many.ended fit_many
  fit_many_promised = refl

  pub exp_promised : exp.clauses 𝓛 mem run ≡ promise 𝓤 exp.ended (λ κs a r e. r ≡ exp_of a.0)
  exp_promised = refl

  pub exp_m1_promised : exp-m1.clauses 𝓛 mem run ≡ promise 𝓤 exp-m1.ended (λ κs a r e. r ≡ expm1_of a.0)
  exp_m1_promised = refl

  pub ln_promised : ln.clauses 𝓛 mem run ≡ promise 𝓤 ln.ended (λ κs a r e. r ≡ ln_of a.0)
  ln_promised = refl

  pub ln_1p_promised : ln-1p.clauses 𝓛 mem run ≡ promise 𝓤 ln-1p.ended (λ κs a r e. r ≡ ln1p_of a.0)
  ln_1p_promised = refl

  pub ln_gamma_promised : ln-gamma.clauses 𝓛 mem run ≡ promise 𝓤 ln-gamma.ended (λ κs a r e. r ≡ ln_gamma_of a.0)
  ln_gamma_promised = refl

  pub norm_cdf_promised : norm-cdf.clauses 𝓛 mem run ≡ promise 𝓤 norm-cdf.ended (λ κs a r e. r ≡ norm_cdf a.0)
  norm_cdf_promised = refl

  pub norm_pdf_promised : norm-pdf.clauses 𝓛 mem run ≡ promise 𝓤 norm-pdf.ended (λ κs a r e. r ≡ norm_pdf a.0)
  norm_pdf_promised = refl

  pub norm_quantile_promised : norm-quantile.clauses 𝓛 mem run ≡ promise 𝓤 norm-quantile.ended (λ κs a r e. r ≡ norm_quantile a.0)
  norm_quantile_promised = refl

  pub sqrt_promised : sqrt.clauses 𝓛 mem run ≡ promise 𝓤 sqrt.ended (λ κs a r e. r ≡ sqrt_of a.0)
  sqrt_promised = refl
