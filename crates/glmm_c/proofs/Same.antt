-- What each export asks and ensures is what the function asks and ensures that it calls, so that a weaker contract here is refused; `promises` states those once more.
-- Assumes nothing.
use mathlib.Core.Path.{◌≡◌, refl}
use seplogic.Ra.Ura.{Ura}
use base.Logic.{SProp}
use prog.Memory.{Memory}
use prog.Routine.{Routine}
use types.Logic.{Logic}
use contract.Monad.{Fun}
use Rattle.glmm_c.specs.contracts.glmm_rows_length as glmm_rows_length
use Rattle.glmm_c.specs.contracts.glmm_matrices_length as glmm_matrices_length
use Rattle.glmm_c.specs.contracts.glmm_terms_length as glmm_terms_length
use Rattle.glmm_c.specs.contracts.glmm_results_length as glmm_results_length
use Rattle.glmm_c.specs.contracts.glmm_fit_job as glmm_fit_job
use Rattle.glmm_c.specs.contracts.glmm_fit_job_theta as glmm_fit_job_theta
use Rattle.glmm_c.specs.contracts.glmm_fit_many as glmm_fit_many
use Rattle.glmm_c.specs.contracts.glmm_exp as glmm_exp
use Rattle.glmm_c.specs.contracts.glmm_exp_m1 as glmm_exp_m1
use Rattle.glmm_c.specs.contracts.glmm_ln as glmm_ln
use Rattle.glmm_c.specs.contracts.glmm_ln_1p as glmm_ln_1p
use Rattle.glmm_c.specs.contracts.glmm_ln_gamma as glmm_ln_gamma
use Rattle.glmm_c.specs.contracts.glmm_sqrt as glmm_sqrt
use Rattle.glmm_c.specs.contracts.glmm_norm_cdf as glmm_norm_cdf
use Rattle.glmm_c.specs.contracts.glmm_norm_pdf as glmm_norm_pdf
use Rattle.glmm_c.specs.contracts.glmm_norm_quantile as glmm_norm_quantile
use Rattle.lengths.specs.contracts.rows_asked as rows_length
use Rattle.lengths.specs.contracts.matrices_asked as matrices_length
use Rattle.layout.specs.contracts.terms_length as terms_length
use Rattle.jobcall.specs.contracts.results_asked as results_length
use Rattle.jobcall.specs.contracts.fit_job as fit_job
use Rattle.jobcall.specs.contracts.fit_job_theta as fit_job_theta
use Rattle.many.specs.contracts.fit_many as fit_many
use Rattle.elementary.specs.contracts.exp as exp
use Rattle.elementary.specs.contracts.exp_m1 as exp_m1
use Rattle.elementary.specs.contracts.ln as ln
use Rattle.elementary.specs.contracts.ln_1p as ln_1p
use Rattle.log_gamma.specs.contracts.ln_gamma as ln_gamma
use Rattle.root.specs.contracts.sqrt as sqrt
use Rattle.normal.specs.contracts.norm_cdf as norm_cdf
use Rattle.normal.specs.contracts.norm_pdf as norm_pdf
use Rattle.normal.specs.contracts.norm_quantile as norm_quantile

module _ {M : Type 1} {𝓤 : Ura M} (𝓛 : Logic 𝓤) (mem : Memory → SProp 𝓤) (run : Routine → Fun 𝓤) where
  pub rows_length_same : glmm_rows_length.clauses 𝓛 mem run ≡ rows_length.clauses 𝓛 mem run
  rows_length_same = refl

  pub matrices_length_same : glmm_matrices_length.clauses 𝓛 mem run ≡ matrices_length.clauses 𝓛 mem run
  matrices_length_same = refl

  pub terms_length_same : glmm_terms_length.clauses 𝓛 mem run ≡ terms_length.clauses 𝓛 mem run
  terms_length_same = refl

  pub results_length_same : glmm_results_length.clauses 𝓛 mem run ≡ results_length.clauses 𝓛 mem run
  results_length_same = refl

  pub fit_job_same : glmm_fit_job.clauses 𝓛 mem run ≡ fit_job.clauses 𝓛 mem run
  fit_job_same = refl

  pub fit_job_theta_same : glmm_fit_job_theta.clauses 𝓛 mem run ≡ fit_job_theta.clauses 𝓛 mem run
  fit_job_theta_same = refl

  pub fit_many_same : glmm_fit_many.clauses 𝓛 mem run ≡ fit_many.clauses 𝓛 mem run
  fit_many_same = refl

  pub exp_same : glmm_exp.clauses 𝓛 mem run ≡ exp.clauses 𝓛 mem run
  exp_same = refl

  pub exp_m1_same : glmm_exp_m1.clauses 𝓛 mem run ≡ exp_m1.clauses 𝓛 mem run
  exp_m1_same = refl

  pub ln_same : glmm_ln.clauses 𝓛 mem run ≡ ln.clauses 𝓛 mem run
  ln_same = refl

  pub ln_1p_same : glmm_ln_1p.clauses 𝓛 mem run ≡ ln_1p.clauses 𝓛 mem run
  ln_1p_same = refl

  pub ln_gamma_same : glmm_ln_gamma.clauses 𝓛 mem run ≡ ln_gamma.clauses 𝓛 mem run
  ln_gamma_same = refl

  pub sqrt_same : glmm_sqrt.clauses 𝓛 mem run ≡ sqrt.clauses 𝓛 mem run
  sqrt_same = refl

  pub norm_cdf_same : glmm_norm_cdf.clauses 𝓛 mem run ≡ norm_cdf.clauses 𝓛 mem run
  norm_cdf_same = refl

  pub norm_pdf_same : glmm_norm_pdf.clauses 𝓛 mem run ≡ norm_pdf.clauses 𝓛 mem run
  norm_pdf_same = refl

  pub norm_quantile_same : glmm_norm_quantile.clauses 𝓛 mem run ≡ norm_quantile.clauses 𝓛 mem run
  norm_quantile_same = refl
