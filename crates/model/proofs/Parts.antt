-- The tries by what became of them: over any run the four parts add up to the tries, and so does every sum of such accounts; their caps follow. Document 02, P9. Assumes nothing.
use mathlib.Core.Path.{◌≡◌, refl}
use mathlib.Core.List.{List, [], ◌∷◌}
use Prim.Native.Nat.{◌+◌, ◌≤◌}
use native.Mathlib.Omega.{arith}
use Rattle.model.specs.Account.{◌⊞◌, AtMost, AddsUp, Accepts}
use Rattle.model.specs.Items.{Item, a_fit, a_solve, a_try, a_point, eta_refused, mean_refused, pwrss_refused, accepted, is_try, is_eta, is_mean, is_pwrss, is_ok, count_of, tally}
use Rattle.model.specs.declared.counts.Account.{Account}

-- each try is in exactly one of the four
pub parts_add_up : (is : List Item) → count_of is_eta is + count_of is_mean is + count_of is_pwrss is + count_of is_ok is ≡ count_of is_try is
unfolding count_of
parts_add_up [] = refl
parts_add_up (a_fit ∷ is) = omega (arith, parts_add_up is)
parts_add_up (a_solve ∷ is) = omega (arith, parts_add_up is)
parts_add_up (a_try eta_refused ∷ is) = omega (arith, parts_add_up is)
parts_add_up (a_try mean_refused ∷ is) = omega (arith, parts_add_up is)
parts_add_up (a_try pwrss_refused ∷ is) = omega (arith, parts_add_up is)
parts_add_up (a_try accepted ∷ is) = omega (arith, parts_add_up is)
parts_add_up (a_point ∷ is) = omega (arith, parts_add_up is)

pub tally_parts : (is : List Item) → AddsUp (tally is)
unfolding tally
tally_parts is = parts_add_up is

-- ---- what holds of two accounts holds of their sum
pub plus_adds : (a b : Account) → AddsUp a → AddsUp b → AddsUp (a ⊞ b)
unfolding ◌⊞◌
plus_adds a b p q = omega arith

pub plus_accepts : (a b : Account) → Accepts a → Accepts b → Accepts (a ⊞ b)
unfolding ◌⊞◌
plus_accepts a b p q = omega arith

-- ---- the caps of the parts follow from those of tries and solves, wherever a cap allows each part as much
pub parts_capped : (cap a : Account) → AddsUp a → Accepts a → a.fits ≤ cap.fits → a.solves ≤ cap.solves → a.tries ≤ cap.tries → a.points ≤ cap.points → cap.tries ≤ cap.eta → cap.tries ≤ cap.mean → cap.tries ≤ cap.pwrss → cap.solves ≤ cap.ok → AtMost cap a
parts_capped cap a p q f s t n e m w o =
    record { fits = f; solves = s; tries = t; points = n; eta = omega arith; mean = omega arith; pwrss = omega arith; ok = omega arith }
