-- What becomes of a try: it is refused for the first of the three tests that it fails, each taken over all observations, and it moves exactly where it passes them all. Document 02, P9. Assumes nothing.
use mathlib.Core.Path.{◌≡◌, refl}
use mathlib.Core.Bool.{Bool, true, false}
use mathlib.Core.List.{List}
use mathlib.Core.Logic.{◌↔◌}
use lib.Ieee.{Float}
use Rattle.base.specs.Number.{finite}
use Rattle.base.specs.Sum.{all_to, finite_at}
use Rattle.model.specs.Items.{eta_refused, mean_refused, pwrss_refused}
use Rattle.rule.specs.Try.{Trial, candidate_of, fine_eta_at, means_of, pwrss_of, Move, Tried, refused, moves, after_pwrss, try_pwrss, after_means, try_means, after_eta, try_eta, try_of}

module _ (T : Trial) (step : Float) where
  -- the candidate, its means and its PWRSS
  abbrev c : List Float
  c = candidate_of T step

  abbrev mu : List Float
  mu = means_of T c

  abbrev r : Float
  r = pwrss_of T c

  -- the three tests
  abbrev pub etas_fine : Bool
  etas_fine = all_to T.n (fine_eta_at T.link c)

  abbrev pub means_fine : Bool
  means_fine = all_to T.n (finite_at mu)

  abbrev pub pwrss_fine : Bool
  pwrss_fine = finite r

  abbrev pub candidate : Move
  candidate = record { eta = c; mu = mu; pwrss = r }

  -- by the tests in their order
  eta_fails : etas_fine ≡ false → try_of T step ≡ refused eta_refused
  unfolding try_of try_eta after_eta
  eta_fails e = rw e refl

  mean_fails : etas_fine ≡ true → means_fine ≡ false → try_of T step ≡ refused mean_refused
  unfolding try_of try_eta after_eta try_means after_means
  mean_fails e m = rw (e, m) refl

  pwrss_fails : etas_fine ≡ true → means_fine ≡ true → pwrss_fine ≡ false → try_of T step ≡ refused pwrss_refused
  unfolding try_of try_eta after_eta try_means after_means try_pwrss after_pwrss
  pwrss_fails e m p = rw (e, m, p) refl

  none_fails : etas_fine ≡ true → means_fine ≡ true → pwrss_fine ≡ true → try_of T step ≡ moves candidate
  unfolding try_of try_eta after_eta try_means after_means try_pwrss after_pwrss
  none_fails e m p = rw (e, m, p) refl

  -- and back
  data Sorted : Tried → Type 0 where
    at_eta : etas_fine ≡ false → Sorted (refused eta_refused)
    at_mean : etas_fine ≡ true → means_fine ≡ false → Sorted (refused mean_refused)
    at_pwrss : etas_fine ≡ true → means_fine ≡ true → pwrss_fine ≡ false → Sorted (refused pwrss_refused)
    at_none : etas_fine ≡ true → means_fine ≡ true → pwrss_fine ≡ true → Sorted (moves candidate)

  sorted : (x y z : Bool) → etas_fine ≡ x → means_fine ≡ y → pwrss_fine ≡ z → Sorted (try_of T step)
  sorted false y z e m p = rw (eta_fails e) (at_eta e)
  sorted true false z e m p = rw (mean_fails e m) (at_mean e m)
  sorted true true false e m p = rw (pwrss_fails e m p) (at_pwrss e m p)
  sorted true true true e m p = rw (none_fails e m p) (at_none e m p)

  whole : Sorted (try_of T step)
  whole = sorted etas_fine means_fine pwrss_fine refl refl refl

  -- refused for eta exactly where an eta cannot be accepted
  pub eta_exactly : (try_of T step ≡ refused eta_refused) ↔ (etas_fine ≡ false)
  eta_exactly = (λ h. by (rw h at whole), eta_fails)
    where
      by : Sorted (refused eta_refused) → etas_fine ≡ false
      by (at_eta e) = e

  -- for a mean exactly where all etas can be accepted and a mean is not finite
  pub mean_exactly : (try_of T step ≡ refused mean_refused) ↔ ((etas_fine ≡ true) × (means_fine ≡ false))
  mean_exactly = (λ h. by (rw h at whole), λ w. mean_fails w.0 w.1)
    where
      by : Sorted (refused mean_refused) → (etas_fine ≡ true) × (means_fine ≡ false)
      by (at_mean e m) = (e, m)

  -- for PWRSS exactly where etas and means can be accepted and it is not finite
  pub pwrss_exactly : (try_of T step ≡ refused pwrss_refused) ↔ ((etas_fine ≡ true) × (means_fine ≡ true) × (pwrss_fine ≡ false))
  pwrss_exactly = (λ h. by (rw h at whole), λ w. pwrss_fails w.0 w.1 w.2)
    where
      by : Sorted (refused pwrss_refused) → (etas_fine ≡ true) × (means_fine ≡ true) × (pwrss_fine ≡ false)
      by (at_pwrss e m p) = (e, m, p)

  -- and accepted exactly where it passes all three
  pub moves_exactly : (try_of T step ≡ moves candidate) ↔ ((etas_fine ≡ true) × (means_fine ≡ true) × (pwrss_fine ≡ true))
  moves_exactly = (λ h. by (try_of T step) whole h, λ w. none_fails w.0 w.1 w.2)
    where
      by : (x : Tried) → Sorted x → x ≡ moves candidate → (etas_fine ≡ true) × (means_fine ≡ true) × (pwrss_fine ≡ true)
      by _ (at_eta e) q = absurd (cc)
      by _ (at_mean e m) q = absurd (cc)
      by _ (at_pwrss e m p) q = absurd (cc)
      by _ (at_none e m p) q = (e, m, p)
