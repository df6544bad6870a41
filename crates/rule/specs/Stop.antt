-- On stopping: the deviance of each response, the fit term and the Laplace deviance. Document 01, "The inner fit", on stopping. Assumes nothing.
use Rattle.std.specs.Prelude.{List, Bool, cond, ℕ, Float}
use Rattle.std.specs.Float.Ieee.{lt}
use Rattle.base.specs.Number.{◌⊕◌, ◌⊖◌, ◌⊘◌, two_f, abs_f}
use Rattle.base.specs.Sum.{sum_to, dot_of}
use Rattle.base.specs.List.{build, at, entry_of}
use Rattle.elementary.specs.Log.{ln_of}
use Rattle.family.specs.Family.{tenth_f, uses_dispersion}
use Rattle.family_lists.specs.Lists.{dev_resid_at}
use Rattle.family_lists.specs.Aic.{aic_of}
use Rattle.family.specs.declared.carried.CarriedFamily.{CarriedFamily}
use Rattle.rule.specs.Constant.{tol_f}
use Rattle.rule.specs.Given.{Given, q_of, n_of}
use Rattle.rule.specs.Solve.{Solved}
use Rattle.rule.specs.Try.{Move}

-- the stop test: |old - PWRSS| / (PWRSS + 0.1) < 1e-8
unfoldable pub stops : Float → Float → Bool
stops old new = lt (abs_f (old ⊖ new) ⊘ (new ⊕ tenth_f)) tol_f

-- the deviance of every response at the means mu
unfoldable pub deviances_of : Given → List Float → List Float
deviances_of G mu = build (dev_resid_at G.family G.y mu G.weights) (n_of G)

-- their sum
unfoldable pub deviance_sum : ℕ → List Float → Float
deviance_sum n devs = sum_to n (entry_of devs)

-- the fit term: the deviance sum, with dispersion `aic` - 2
unfoldable pub fit_term : CarriedFamily → List Float → List Float → List Float → Float → Float
fit_term family y mu weights dev = cond (uses_dispersion family) (aic_of family y mu weights dev ⊖ two_f) dev

-- ln|d_i|
unfoldable pub log_pivot_at : ℕ → List Float → ℕ → Float
log_pivot_at q F i = ln_of (abs_f (at q F i i))

-- the sum of ln|d|
unfoldable pub log_pivots : ℕ → List Float → Float
log_pivots q F = sum_to q (log_pivot_at q F)

-- the Laplace deviance: (fit term + sum of ln|d|) + u·u
unfoldable pub laplace_of : ℕ → Solved → Float → Float
laplace_of q s fit = (fit ⊕ log_pivots q s.factor) ⊕ dot_of q s.u s.u

-- what a stop leaves for the quadrature and the results: the iterations; A and the normal matrix's factor of the last solve; β and u of its full step; the accepted eta and mu; the deviances there, their sum, the fit term and the Laplace deviance
pub record Mode : Type 0 where
  pub iterations : ℕ
  pub system : List Float
  pub root : List Float
  pub beta : List Float
  pub u : List Float
  pub eta : List Float
  pub mu : List Float
  pub devs : List Float
  pub dev_sum : Float
  pub fit : Float
  pub laplace : Float

-- with the fit term
unfoldable pub mode_fit : Given → ℕ → Solved → Move → List Float → Float → Float → Mode
mode_fit G k s m devs dev_sum fit =
    record {
      iterations = k;
      system = s.system;
      root = s.root;
      beta = s.beta;
      u = s.u;
      eta = m.eta;
      mu = m.mu;
      devs = devs;
      dev_sum = dev_sum;
      fit = fit;
      laplace = laplace_of (q_of G.design) s fit;
    }

-- with the deviance sum
unfoldable pub mode_sum : Given → ℕ → Solved → Move → List Float → Float → Mode
mode_sum G k s m devs dev_sum = mode_fit G k s m devs dev_sum (fit_term G.family G.y m.mu G.weights dev_sum)

-- with the deviances
unfoldable pub mode_devs : Given → ℕ → Solved → Move → List Float → Mode
mode_devs G k s m devs = mode_sum G k s m devs (deviance_sum (n_of G) devs)

-- the stop after k iterations, with the solve s and the accepted move m
unfoldable pub mode_of : Given → ℕ → Solved → Move → Mode
mode_of G k s m = mode_devs G k s m (deviances_of G m.mu)
