-- The derivative at a predictor, told by its mean. Assumes nothing.
use mathlib.Core.Path.{◌≡◌, refl, sym, ◌∙◌}
use mathlib.Core.Bool.{Bool, true, false, cond, true≢false}
use lib.Ieee.{Float, lt}
use Rattle.base.specs.Number.{◌⊖◌, ◌⊗◌, one_f, eps_f, max_f, clamp_f}
use Rattle.base.proofs.Doubles.{not_both}
use Rattle.family.specs.Link.{clamp_e, logistic, link_inv, mu_eta}
use Rattle.family.specs.declared.carried.CarriedLink.{CarriedLink}
use Rattle.family.specs.declared.carried.CarriedLink.TheVariants.{Logit, Log}

-- nothing is below itself
below_self : (x : Float) → lt x x ≡ true → ⊥
below_self x h = true≢false (sym h ∙ not_both x x h)

-- what lies strictly between the ends of a clamp was not moved by it
pub clamp_inside : (lo hi p : Float) → lt lo (clamp_f lo hi p) ≡ true → lt (clamp_f lo hi p) hi ≡ true → clamp_f lo hi p ≡ p
unfolding clamp_f
clamp_inside lo hi p = by (lt p lo) (lt hi p)
  where
    by : (b c : Bool) → lt lo (cond b lo (cond c hi p)) ≡ true → lt (cond b lo (cond c hi p)) hi ≡ true → cond b lo (cond c hi p) ≡ p
    by true c l h = absurd (below_self lo l)
    by false true l h = absurd (below_self hi h)
    by false false l h = refl

-- the logit link: inside the ends of its clamp the mean is the logistic
pub logit_slope : (link : CarriedLink) (eta mu : Float) → link ≡ Logit → mu ≡ link_inv link eta → lt eps_f mu ≡ true → lt mu (one_f ⊖ eps_f) ≡ true → max_f (mu ⊗ (one_f ⊖ mu)) eps_f ≡ mu_eta link eta
unfolding link_inv clamp_e mu_eta
logit_slope link eta mu k e l h =
    let c : mu ≡ clamp_f eps_f (one_f ⊖ eps_f) (logistic eta) = rw k at e in
    let p : mu ≡ logistic eta = c ∙ clamp_inside eps_f (one_f ⊖ eps_f) (logistic eta) (rw c at l) (rw c at h) in
    rw (k, p) refl

-- the log link: exp is its own derivative
pub log_slope : (link : CarriedLink) (eta mu : Float) → link ≡ Log → mu ≡ link_inv link eta → mu ≡ mu_eta link eta
unfolding link_inv mu_eta
log_slope link eta mu k e = rw k at e ∙ rw k refl
