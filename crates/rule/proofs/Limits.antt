-- A higher limit changes nothing that did not end with 13, and for 13 the counts do not shrink; the start is a variable. Assumes nothing.
use mathlib.Core.Path.{◌≡◌, refl, ap}
use mathlib.Core.Bool.{Bool, true, false}
use mathlib.Core.List.{List, [], ◌∷◌}
use Prim.Native.Nat.{ℕ, zero, suc, ◌+◌, ◌≤◌}
use native.Mathlib.Nat.{not-suc-le-zero, le_of_suc-le-suc}
use native.Mathlib.Omega.{arith}
use lib.Ieee.{Float}
use Rattle.model.specs.Account.{AtMost}
use Rattle.model.specs.Items.{Item, a_fit, a_solve, is_fit, is_solve, is_try, is_point, is_eta, is_mean, is_pwrss, is_ok, count_of, tally}
use Rattle.model.specs.declared.ends.End.TheVariants.{NoStop}
use Rattle.model.proofs.Tallies.{count_append}
use Rattle.rule.specs.Given.{Given}
use Rattle.rule.specs.Solve.{Solved, Solve, solved, unsolved, solve_of}
use Rattle.rule.specs.Try.{Search, found_move, no_move, tries_of, trial_of}
use Rattle.rule.specs.Stop.{Mode, mode_of, stops}
use Rattle.rule.specs.Run.{failed, Outcome, State, items_before, failed_after, after_stop, moved, after_search, after_solve, run_from, start_at, run_of}

-- the run did not end for want of iterations
abbrev pub Ended : Outcome → Type 0
Ended o = o.ending ≡ failed NoStop → ⊥

-- ---- one iteration with two rests
module _ (G : Given) (s : State) (rest more : State → Outcome) where
  module _ (same : (t : State) → Ended (rest t) → more t ≡ rest t) where
    stop_same : (b : Bool) (m : Mode) (t : State) → Ended (after_stop b m rest t) → after_stop b m more t ≡ after_stop b m rest t
    unfolding after_stop
    stop_same true m t h = refl
    stop_same false m t h = same t h

    search_same : (x : Search) (v : Solved) → Ended (after_search x G v s rest) → after_search x G v s more ≡ after_search x G v s rest
    unfolding after_search items_before
    search_same (no_move is) v h = refl
    search_same (found_move m is) v h = ap (items_before (a_solve ∷ is)) (stop_same (stops s.old m.pwrss) (mode_of G (s.done + 1) v m) (moved s m) h)

    solve_same : (x : Solve) → Ended (after_solve x G s rest) → after_solve x G s more ≡ after_solve x G s rest
    unfolding after_solve
    solve_same (unsolved e) h = refl
    solve_same (solved v) h = search_same (tries_of (trial_of G v s.eta)) v h

  module _ (t : Item → Bool) (grows : (r : State) → count_of t (rest r).items ≤ count_of t (more r).items) where
    stop_grows : (b : Bool) (m : Mode) (r : State) → count_of t (after_stop b m rest r).items ≤ count_of t (after_stop b m more r).items
    unfolding after_stop
    stop_grows true m r = omega arith
    stop_grows false m r = grows r

    search_grows : (x : Search) (v : Solved) → count_of t (after_search x G v s rest).items ≤ count_of t (after_search x G v s more).items
    unfolding after_search items_before failed_after
    search_grows (no_move is) v = omega arith
    search_grows (found_move m is) v =
        omega (arith, stop_grows (stops s.old m.pwrss) (mode_of G (s.done + 1) v m) (moved s m), count_append t (a_solve ∷ is) (after_stop (stops s.old m.pwrss) (mode_of G (s.done + 1) v m) rest (moved s m)).items, count_append t (a_solve ∷ is) (after_stop (stops s.old m.pwrss) (mode_of G (s.done + 1) v m) more (moved s m)).items)

    solve_grows : (x : Solve) → count_of t (after_solve x G s rest).items ≤ count_of t (after_solve x G s more).items
    unfolding after_solve failed_after
    solve_grows (unsolved e) = omega arith
    solve_grows (solved v) = search_grows (tries_of (trial_of G v s.eta)) v

-- ---- the run from a state on
pub run_same : (G : Given) (phi : Float) (f g : ℕ) → f ≤ g → (s : State) → Ended (run_from G phi f s) → run_from G phi g s ≡ run_from G phi f s
unfolding run_from failed_after
run_same G phi zero g l s h = absurd (h refl)
run_same G phi (suc f) zero l s h = absurd (not-suc-le-zero l)
run_same G phi (suc f) (suc g) l s h =
    solve_same G s (run_from G phi f) (run_from G phi g) (λ t e. run_same G phi f g (le_of_suc-le-suc l) t e) (solve_of G phi s.eta s.mu) h

pub run_grows : (G : Given) (phi : Float) (t : Item → Bool) (f g : ℕ) → f ≤ g → (s : State) → count_of t (run_from G phi f s).items ≤ count_of t (run_from G phi g s).items
unfolding run_from failed_after count_of
run_grows G phi t zero g l s = omega arith
run_grows G phi t (suc f) zero l s = absurd (not-suc-le-zero l)
run_grows G phi t (suc f) (suc g) l s =
    solve_grows G s (run_from G phi f) (run_from G phi g) t (λ r. run_grows G phi t f g (le_of_suc-le-suc l) r) (solve_of G phi s.eta s.mu)

-- ---- the inner fit
pub limit_same : (G : Given) (phi : Float) (mu : List Float) (L M : ℕ) → L ≤ M → Ended (run_of G phi L mu) → run_of G phi M mu ≡ run_of G phi L mu
unfolding run_of items_before
limit_same G phi mu L M l h = ap (items_before (a_fit ∷ [])) (run_same G phi L M l (start_at G mu) h)

pub limit_grows : (G : Given) (phi : Float) (mu : List Float) (t : Item → Bool) (L M : ℕ) → L ≤ M → count_of t (run_of G phi L mu).items ≤ count_of t (run_of G phi M mu).items
unfolding run_of items_before
limit_grows G phi mu t L M l =
    omega (arith, run_grows G phi t L M l (start_at G mu), count_append t (a_fit ∷ []) (run_from G phi L (start_at G mu)).items, count_append t (a_fit ∷ []) (run_from G phi M (start_at G mu)).items)

-- every count of the account
pub account_grows : (G : Given) (phi : Float) (mu : List Float) (L M : ℕ) → L ≤ M → AtMost (tally (run_of G phi M mu).items) (tally (run_of G phi L mu).items)
unfolding tally
account_grows G phi mu L M l =
    record {
      fits = limit_grows G phi mu is_fit L M l;
      solves = limit_grows G phi mu is_solve L M l;
      tries = limit_grows G phi mu is_try L M l;
      points = limit_grows G phi mu is_point L M l;
      eta = limit_grows G phi mu is_eta L M l;
      mean = limit_grows G phi mu is_mean L M l;
      pwrss = limit_grows G phi mu is_pwrss L M l;
      ok = limit_grows G phi mu is_ok L M l;
    }
