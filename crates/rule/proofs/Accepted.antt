-- Accepted tries: an iteration accepts one where it finds a move and none else, so a run accepts one for each solve, but for the last solve of a run that ends with 12. Document 02, P9. Assumes nothing.
use Rattle.std.specs.Prelude.{Result, Ok, Err, ⊤}
use Prim.{tt}
use mathlib.Core.Path.{◌≡◌, refl, ap}
use mathlib.Core.Bool.{Bool, true, false}
use mathlib.Core.List.{List}
use Prim.Native.Nat.{ℕ, zero, suc, ◌+◌, ◌≤◌}
use native.Mathlib.Omega.{arith}
use lib.Ieee.{Float}
use Rattle.base.specs.Number.{◌⊗◌, one_f, half_f, finite}
use Rattle.base.specs.Sum.{all_to, finite_at}
use Rattle.model.specs.Account.{Accepts}
use Rattle.model.specs.Caps.{tries_cap}
use Rattle.model.specs.Items.{Item, a_try, Fate, eta_refused, mean_refused, pwrss_refused, accepted, is_solve, is_ok, count_of, tally}
use Rattle.model.specs.declared.ends.End.{End}
use Rattle.model.specs.declared.ends.End.TheVariants.{SystemPivot, NormalPivot, NoStep, NoStop}
use Rattle.model.proofs.Tallies.{count_append}
use Rattle.family.specs.Carried.{link_of}
use Rattle.factor.specs.Factor.{cholesky_of, cholesky_end, ldl_end}
use Rattle.rule.specs.Given.{Given, Design, q_of}
use Rattle.rule.specs.Working.{working_weights, working_responses, targets}
use Rattle.rule.specs.Solve.{Solved, Solve, solved, unsolved, Reduced, reduced_of, factor_of, system_of, normal_of, found, after_root, solve_root, solve_normal, solve_reduced, after_factor, solve_factor, solve_system, solve_working, solve_of}
use Rattle.rule.specs.Try.{Trial, candidate_of, fine_eta_at, means_of, pwrss_of, Move, Tried, refused, moves, after_pwrss, try_pwrss, after_means, try_means, after_eta, try_eta, try_of, Search, found_move, no_move, item_before, after_try, tries_from, tries_of, trial_of}
use Rattle.rule.specs.Stop.{Mode, mode_of, stops}
use Rattle.rule.specs.Run.{Ending, stopped, failed, Outcome, State, items_before, failed_after, after_stop, moved, after_search, after_solve, run_from, start_at, run_of}

-- the items of a search
abbrev pub items_in : Search → List Item
items_in (found_move m is) = is
items_in (no_move is) = is

-- how many moves it found
abbrev pub moves_in : Search → ℕ
moves_in (found_move m is) = 1
moves_in (no_move is) = 0

-- ---- a try is refused by one of its three tests, or it moves
data Tested : Tried → Type 0 where
  eta_failed : Tested (refused eta_refused)
  mean_failed : Tested (refused mean_refused)
  pwrss_failed : Tested (refused pwrss_refused)
  passed : (m : Move) → Tested (moves m)

pwrss_tested : (b : Bool) (c m : List Float) (r : Float) → Tested (after_pwrss b c m r)
unfolding after_pwrss
pwrss_tested false c m r = pwrss_failed
pwrss_tested true c m r = passed (record { eta = c; mu = m; pwrss = r })

means_tested : (b : Bool) (T : Trial) (c m : List Float) → Tested (after_means b T c m)
unfolding after_means try_pwrss
means_tested false T c m = mean_failed
means_tested true T c m = let r = pwrss_of T c in pwrss_tested (finite r) c m r

eta_tested : (b : Bool) (T : Trial) (c : List Float) → Tested (after_eta b T c)
unfolding after_eta try_means
eta_tested false T c = eta_failed
eta_tested true T c = let m = means_of T c in means_tested (all_to T.n (finite_at m)) T c m

tested : (T : Trial) (step : Float) → Tested (try_of T step)
unfolding try_of try_eta
tested T step = let c = candidate_of T step in eta_tested (all_to T.n (fine_eta_at T.link c)) T c

-- ---- the tries of an iteration
-- one accepted try for each move found, and no solve
record Found (x : Search) : Type 0 where
  ok : count_of is_ok (items_in x) ≡ moves_in x
  solves : count_of is_solve (items_in x) ≡ 0

one_before : (f : Fate) (x : Search) → is_ok (a_try f) ≡ false → Found x → Found (item_before (a_try f) x)
unfolding item_before count_of
one_before f (found_move m is) e p = record { ok = rw e (omega (arith, p.ok)); solves = omega (arith, p.solves) }
one_before f (no_move is) e p = record { ok = rw e (omega (arith, p.ok)); solves = omega (arith, p.solves) }

try_found : (x : Tried) → Tested x → (rest : Float → Search) (step : Float) → ((st : Float) → Found (rest st)) → Found (after_try x rest step)
unfolding after_try count_of
try_found (moves m) (passed _) rest step h = record { ok = refl; solves = refl }
try_found (refused eta_refused) eta_failed rest step h = one_before eta_refused (rest (step ⊗ half_f)) refl (h (step ⊗ half_f))
try_found (refused mean_refused) mean_failed rest step h = one_before mean_refused (rest (step ⊗ half_f)) refl (h (step ⊗ half_f))
try_found (refused pwrss_refused) pwrss_failed rest step h = one_before pwrss_refused (rest (step ⊗ half_f)) refl (h (step ⊗ half_f))
try_found (refused accepted) x rest step h = elim x [ ]

from_found : (T : Trial) (f : ℕ) (step : Float) → Found (tries_from T f step)
unfolding tries_from count_of
from_found T zero step = record { ok = refl; solves = refl }
from_found T (suc f) step = try_found (try_of T step) (tested T step) (tries_from T f) step (λ st. from_found T f st)

of_found : (T : Trial) → Found (tries_of T)
unfolding tries_of
of_found T = from_found T (tries_cap (link_of T.link)) one_f

-- accepted are as many tries as moves were found: one, or none
pub tries_found : (T : Trial) → count_of is_ok (items_in (tries_of T)) ≡ moves_in (tries_of T)
tries_found T = (of_found T).ok

moves_few : (x : Search) → moves_in x ≤ 1
moves_few (found_move m is) = omega arith
moves_few (no_move is) = omega arith

pub tries_accepted : (T : Trial) → count_of is_ok (items_in (tries_of T)) ≤ 1
tries_accepted T = omega (arith, tries_found T, moves_few (tries_of T))

-- ---- a solve is there, or one of its two factorisations failed
data Pivots : Solve → Type 0 where
  both_done : (v : Solved) → Pivots (solved v)
  system_failed : Pivots (unsolved SystemPivot)
  normal_failed : Pivots (unsolved NormalPivot)

root_pivots : (x : Result ⊤ ℕ) (D : Design) (r : Reduced) (C : List Float) → Pivots (after_root x D r C)
unfolding after_root
root_pivots (Err i) D r C = normal_failed
root_pivots (Ok tt) D r C = both_done (found D r C)

factor_pivots : (x : Result ⊤ ℕ) (D : Design) (w z A F : List Float) → Pivots (after_factor x D w z A F)
unfolding after_factor solve_reduced solve_normal solve_root
factor_pivots (Err i) D w z A F = system_failed
factor_pivots (Ok tt) D w z A F =
    let r = reduced_of D w z (targets D z) A F in
    let N = normal_of D r.w r.W in
    root_pivots (cholesky_end D.p N (cholesky_of D.p N)) D r (cholesky_of D.p N)

pivots : (G : Given) (phi : Float) (eta mu : List Float) → Pivots (solve_of G phi eta mu)
unfolding solve_of solve_working solve_system solve_factor
pivots G phi eta mu =
    let D = G.design in
    let w = working_weights G phi eta mu in
    let A = system_of D w in
    factor_pivots (ldl_end (q_of D) (factor_of D A)) D w (working_responses G eta mu) A (factor_of D A)

-- ---- the iterations
-- 1 of end 12
abbrev pub stuck_at : End → ℕ
stuck_at SystemPivot = 0
stuck_at NormalPivot = 0
stuck_at NoStep = 1
stuck_at NoStop = 0

-- 1 where a run ended so
abbrev pub stuck_in : Ending → ℕ
stuck_in (stopped m) = 0
stuck_in (failed e) = stuck_at e

-- any other end counts for nothing
pub not_stuck : (e : End) → (e ≡ NoStep → ⊥) → stuck_at e ≡ 0
not_stuck SystemPivot h = refl
not_stuck NormalPivot h = refl
not_stuck NoStep h = absurd (h refl)
not_stuck NoStop h = refl

-- one accepted try for each solve, and one solve more where the run ended with 12
abbrev pub Paid : Outcome → Type 0
Paid o = count_of is_solve o.items ≡ count_of is_ok o.items + stuck_in o.ending

module _ (G : Given) (s : State) (rest : State → Outcome) (h : (t : State) → Paid (rest t)) where
  stop_paid : (b : Bool) (m : Mode) (t : State) → Paid (after_stop b m rest t)
  unfolding after_stop count_of
  stop_paid true m t = refl
  stop_paid false m t = h t

  search_paid : (x : Search) (v : Solved) → Found x → Paid (after_search x G v s rest)
  unfolding after_search items_before failed_after count_of
  search_paid (no_move is) v p = omega (arith, p.ok, p.solves)
  search_paid (found_move m is) v p =
      let b = stops s.old m.pwrss in
      let k = mode_of G (s.done + 1) v m in
      let js = (after_stop b k rest (moved s m)).items in
      omega (arith, p.ok, p.solves, stop_paid b k (moved s m), count_append is_solve is js, count_append is_ok is js)

  solve_paid : (x : Solve) → Pivots x → Paid (after_solve x G s rest)
  unfolding after_solve failed_after count_of
  solve_paid (solved v) (both_done _) = search_paid (tries_of (trial_of G v s.eta)) v (of_found (trial_of G v s.eta))
  solve_paid (unsolved SystemPivot) system_failed = refl
  solve_paid (unsolved NormalPivot) normal_failed = refl
  solve_paid (unsolved NoStep) p = elim p [ ]
  solve_paid (unsolved NoStop) p = elim p [ ]

from_paid : (G : Given) (phi : Float) (f : ℕ) (s : State) → Paid (run_from G phi f s)
unfolding run_from failed_after count_of
from_paid G phi zero s = refl
from_paid G phi (suc f) s =
    solve_paid G s (run_from G phi f) (λ t. from_paid G phi f t) (solve_of G phi s.eta s.mu) (pivots G phi s.eta s.mu)

-- ---- the inner fit
module _ (G : Given) (phi : Float) (L : ℕ) (mu : List Float) where
  pub run_paid : Paid (run_of G phi L mu)
  unfolding run_of items_before count_of
  run_paid = omega (arith, from_paid G phi L (start_at G mu))

  -- accepted never exceed the solves
  pub run_accepted : count_of is_ok (run_of G phi L mu).items ≤ count_of is_solve (run_of G phi L mu).items
  run_accepted = omega (arith, run_paid)

  pub run_accepts : Accepts (tally (run_of G phi L mu).items)
  unfolding tally
  run_accepts = run_accepted

  -- each solve has its accepted try, unless the run ended with 12; then the last has none
  pub run_all : ((run_of G phi L mu).ending ≡ failed NoStep → ⊥) → count_of is_ok (run_of G phi L mu).items ≡ count_of is_solve (run_of G phi L mu).items
  run_all h = omega (arith, run_paid, by_ending (run_of G phi L mu).ending h)
    where
      by_ending : (x : Ending) → (x ≡ failed NoStep → ⊥) → stuck_in x ≡ 0
      by_ending (stopped m) n = refl
      by_ending (failed e) n = not_stuck e (λ q. n (ap failed q))

  pub run_stuck : (run_of G phi L mu).ending ≡ failed NoStep → count_of is_ok (run_of G phi L mu).items + 1 ≡ count_of is_solve (run_of G phi L mu).items
  run_stuck e = omega (arith, run_paid, ap stuck_in e)
