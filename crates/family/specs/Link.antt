-- The links that are carried: predictor of a mean, mean of a predictor, derivative of the mean. Document 01, module 3, and document 02, P8; `GlmLink` of family.rs. Assumes nothing.
use Rattle.std.specs.Prelude.{cond, Float}
use Rattle.std.specs.Float.Ieee.{neg}
use Rattle.base.specs.Number.{◌⊕◌, ◌⊖◌, ◌⊗◌, ◌⊘◌, zero_f, one_f, two_f, eps_f, infinite, max_f, clamp_f}
use Rattle.root.specs.Sqrt.{sqrt_of}
use Rattle.elementary.specs.Exp.{exp_of}
use Rattle.elementary.specs.Expm1.{expm1_of}
use Rattle.elementary.specs.Log.{ln_of}
use Rattle.elementary.specs.Log1p.{ln1p_of}
use Rattle.normal.specs.Normal.{norm_pdf, norm_cdf}
use Rattle.normal.specs.Quantile.{norm_quantile}
use Rattle.family.specs.declared.carried.CarriedLink.{CarriedLink}
use Rattle.family.specs.declared.carried.CarriedLink.TheVariants.{Logit, Probit, Cloglog, Log, Identity, Inverse, Sqrt}

-- `clamp(f64::EPSILON, 1.0 - f64::EPSILON)`
unfoldable pub clamp_e : Float → Float
clamp_e p = clamp_f eps_f (one_f ⊖ eps_f) p

-- `link_fun`: the predictor of a mean
unfoldable pub link_fun : CarriedLink → Float → Float
link_fun Logit mu = let m = clamp_e mu in ln_of (m ⊘ (one_f ⊖ m))
link_fun Probit mu = norm_quantile (clamp_e mu)
link_fun Cloglog mu = ln_of (neg (ln1p_of (neg (clamp_e mu))))
link_fun Log mu = ln_of mu
link_fun Identity mu = mu
link_fun Inverse mu = one_f ⊘ max_f mu eps_f
link_fun Sqrt mu = sqrt_of (max_f mu zero_f)

-- 1 / (1 + exp (-e))
unfoldable pub logistic : Float → Float
logistic e = one_f ⊘ (one_f ⊕ exp_of (neg e))

-- `link_inv`: the mean of a predictor; cloglog's `-e.exp()` is -(exp e)
unfoldable pub link_inv : CarriedLink → Float → Float
link_inv Logit eta = clamp_e (logistic eta)
link_inv Probit eta = clamp_e (norm_cdf eta)
link_inv Cloglog eta = clamp_e (neg (expm1_of (neg (exp_of eta))))
link_inv Log eta = exp_of eta
link_inv Identity eta = eta
link_inv Inverse eta = one_f ⊘ max_f eta eps_f
link_inv Sqrt eta = let e = max_f eta zero_f in e ⊗ e

-- x exp (-x) for x = exp e, and 0 where x is infinite
unfoldable pub cloglog_slope : Float → Float
cloglog_slope x = cond (infinite x) zero_f (x ⊗ exp_of (neg x))

-- `mu_eta`: the derivative of the mean, with its floors; in the inverse link the minus comes last
unfoldable pub mu_eta : CarriedLink → Float → Float
mu_eta Logit eta = let p = logistic eta in max_f (p ⊗ (one_f ⊖ p)) eps_f
mu_eta Probit eta = max_f (norm_pdf eta) eps_f
mu_eta Cloglog eta = max_f (cloglog_slope (exp_of eta)) eps_f
mu_eta Log eta = exp_of eta
mu_eta Identity eta = one_f
mu_eta Inverse eta = let e = max_f eta eps_f in neg (max_f (one_f ⊘ (e ⊗ e)) eps_f)
mu_eta Sqrt eta = max_f (two_f ⊗ max_f eta zero_f) eps_f
