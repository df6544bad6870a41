-- The functions of libelementary_c.a: those that elementary_c's exports call, whose contracts are theirs (`elementary_c`'s proofs/Same). Assumes nothing.
use mathlib.Core.Path.{◌≡◌, refl}
use seplogic.Ra.Ura.{Ura}
use base.Logic.{SProp}
use prog.Memory.{Memory}
use prog.Routine.{Routine}
use types.Logic.{Logic}
use contract.Monad.{Fun}
use Rattle.elementary.specs.Exp.{exp_of}
use Rattle.elementary.specs.Expm1.{expm1_of}
use Rattle.elementary.specs.Log.{ln_of}
use Rattle.elementary.specs.Log1p.{ln1p_of}
use Rattle.log_gamma.specs.LogGamma.{ln_gamma_of}
use Rattle.normal.specs.Normal.{norm_cdf, norm_pdf}
use Rattle.normal.specs.Quantile.{norm_quantile}
use Rattle.root.specs.Sqrt.{sqrt_of}
use Rattle.elementary.specs.contracts.exp as exp
use Rattle.elementary.specs.contracts.exp_m1 as exp-m1
use Rattle.elementary.specs.contracts.ln as ln
use Rattle.elementary.specs.contracts.ln_1p as ln-1p
use Rattle.log_gamma.specs.contracts.ln_gamma as ln-gamma
use Rattle.normal.specs.contracts.norm_cdf as norm-cdf
use Rattle.normal.specs.contracts.norm_pdf as norm-pdf
use Rattle.normal.specs.contracts.norm_quantile as norm-quantile
use Rattle.root.specs.contracts.sqrt as sqrt
use Rattle.promises.specs.Promise.{promise}

module _ {M : Type 1} {𝓤 : Ura M} (𝓛 : Logic 𝓤) (mem : Memory → SProp 𝓤) (run : Routine → Fun 𝓤) where
  pub exp_promised : exp.clauses 𝓛 mem run ≡ promise 𝓤 exp.ended (λ κs a r e. r ≡ exp_of a.0)
  exp_promised = refl

  pub exp_m1_promised : exp-m1.clauses 𝓛 mem run ≡ promise 𝓤 exp-m1.ended (λ κs a r e. r ≡ expm1_of a.0)
  exp_m1_promised = refl

  pub ln_promised : ln.clauses 𝓛 mem run ≡ promise 𝓤 ln.ended (λ κs a r e. r ≡ ln_of a.0)
  ln_promised = refl

  pub ln_1p_promised : ln-1p.clauses 𝓛 mem run ≡ promise 𝓤 ln-1p.ended (λ κs a r e. r ≡ ln1p_of a.0)
  ln_1p_promised = refl

  pub ln_gamma_promised : ln-gamma.clauses 𝓛 mem run ≡ promise 𝓤 ln-gamma.ended (λ κs a r e. r ≡ ln_gamma_of a.0)
  ln_gamma_promised = refl

  pub norm_cdf_promised : norm-cdf.clauses 𝓛 mem run ≡ promise 𝓤 norm-cdf.ended (λ κs a r e. r ≡ norm_cdf a.0)
  norm_cdf_promised = refl

  pub norm_pdf_promised : norm-pdf.clauses 𝓛 mem run ≡ promise 𝓤 norm-pdf.ended (λ κs a r e. r ≡ norm_pdf a.0)
  norm_pdf_promised = refl

  pub norm_quantile_promised : norm-quantile.clauses 𝓛 mem run ≡ promise 𝓤 norm-quantile.ended (λ κs a r e. r ≡ norm_quantile a.0)
  norm_quantile_promised = refl

  pub sqrt_promised : sqrt.clauses 𝓛 mem run ≡ promise 𝓤 sqrt.ended (λ κs a r e. r ≡ sqrt_of a.0)
  sqrt_promised = refl
