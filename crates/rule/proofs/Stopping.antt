-- A result is taken at the first iteration that passes the stop test, and that iteration is taken where it is within the limit. Assumes nothing.
use mathlib.Core.Path.{◌≡◌, refl, sym, ap, ◌∙◌}
use mathlib.Core.Bool.{Bool, true, false}
use mathlib.Core.List.{List}
use mathlib.Core.Logic.{◌↔◌, ⊎_elim}
use Prim.Native.Nat.{ℕ, zero, suc, ◌+◌, ◌≤◌, ◌<◌}
use native.Mathlib.Omega.{arith}
use lib.Ieee.{Float}
use Rattle.base.proofs.Doubles.{ff}
use Rattle.base.proofs.Sums.{lt_or_ge}
use Rattle.model.specs.Items.{Item}
use Rattle.model.specs.declared.ends.End.TheVariants.{NoStop}
use Rattle.rule.specs.Given.{Given}
use Rattle.rule.specs.Solve.{Solved, Solve, solved, unsolved, solve_of}
use Rattle.rule.specs.Try.{Move, Search, found_move, no_move, tries_of, trial_of}
use Rattle.rule.specs.Stop.{Mode, mode_fit, mode_sum, mode_devs, mode_of, stops}
use Rattle.rule.specs.Run.{Ending, stopped, failed, Outcome, State, items_before, failed_after, after_stop, moved, after_search, after_solve, run_from, start_at, run_of, FirstStop, here, later}

-- an ending is a stop
abbrev pub is_stopped : Ending → Bool
is_stopped (stopped m) = true
is_stopped (failed e) = false

-- the mode of a stop, k of any other ending
abbrev mode_in : Mode → Ending → Mode
mode_in k (stopped m) = m
mode_in k (failed e) = k

module _ (G : Given) (phi : Float) (s : State) (k : Mode) (rest : State → Outcome) (after : (t : State) → (rest t).ending ≡ stopped k → FirstStop G phi t k) where
  by_stop : (v : Solved) (m : Move) (is : List Item) → solve_of G phi s.eta s.mu ≡ solved v → tries_of (trial_of G v s.eta) ≡ found_move m is → (t : Bool) → stops s.old m.pwrss ≡ t
      → (after_stop t (mode_of G (s.done + 1) v m) rest (moved s m)).ending ≡ stopped k → FirstStop G phi s k
  unfolding after_stop
  by_stop v m is e d true t h =
      let q : mode_of G (s.done + 1) v m ≡ k = ap (mode_in k) h in
      rw (← q) (here s v m is e d t)
  by_stop v m is e d false t h = later s v m is k e d t (after (moved s m) h)

  by_search : (v : Solved) → solve_of G phi s.eta s.mu ≡ solved v → (x : Search) → tries_of (trial_of G v s.eta) ≡ x → (after_search x G v s rest).ending ≡ stopped k → FirstStop G phi s k
  unfolding after_search items_before failed_after
  by_search v e (found_move m is) d h = by_stop v m is e d (stops s.old m.pwrss) refl h
  by_search v e (no_move is) d h = absurd (ff (ap is_stopped h))

  by_solve : (x : Solve) → solve_of G phi s.eta s.mu ≡ x → (after_solve x G s rest).ending ≡ stopped k → FirstStop G phi s k
  unfolding after_solve failed_after
  by_solve (solved v) e h = by_search v e (tries_of (trial_of G v s.eta)) refl h
  by_solve (unsolved e) d h = absurd (ff (ap is_stopped h))

pub first_stop : (G : Given) (phi : Float) (f : ℕ) (s : State) (k : Mode) → (run_from G phi f s).ending ≡ stopped k → FirstStop G phi s k
unfolding run_from failed_after
first_stop G phi zero s k h = absurd (ff (ap is_stopped h))
first_stop G phi (suc f) s k h = by_solve G phi s k (run_from G phi f) (λ t e. first_stop G phi f t k e) (solve_of G phi s.eta s.mu) refl h

-- ---- and back
-- the iterations of a mode
mode_iterations : (G : Given) (n : ℕ) (v : Solved) (m : Move) → (mode_of G n v m).iterations ≡ n
unfolding mode_of mode_devs mode_sum mode_fit
mode_iterations G n v m = refl

-- a stop is counted after what was done before it
pub stop_after : (G : Given) (phi : Float) (s : State) (k : Mode) → FirstStop G phi s k → s.done + 1 ≤ k.iterations
unfolding moved
stop_after G phi s k (here _ v m is e d t) = omega (arith, mode_iterations G (s.done + 1) v m)
stop_after G phi s k (later _ v m is _ e d t r) = omega (arith, stop_after G phi (moved s m) k r)

-- the first iteration that passes the test is taken, where it is within the limit
pub stop_taken : (G : Given) (phi : Float) (f : ℕ) (s : State) (k : Mode) → FirstStop G phi s k → k.iterations ≤ s.done + f → (run_from G phi f s).ending ≡ stopped k
unfolding run_from after_solve after_search items_before after_stop moved
stop_taken G phi zero s k r l = absurd (omega (arith, stop_after G phi s k r))
stop_taken G phi (suc f) s k (here _ v m is e d t) l = rw (e, d, t) refl
stop_taken G phi (suc f) s k (later _ v m is _ e d t r) l = rw (e, d, t) (stop_taken G phi f (moved s m) k r (omega arith))

-- past the limit it is not: the run ends with 13
pub stop_missed : (G : Given) (phi : Float) (f : ℕ) (s : State) (k : Mode) → FirstStop G phi s k → s.done + f < k.iterations → (run_from G phi f s).ending ≡ failed NoStop
unfolding run_from failed_after after_solve after_search items_before after_stop moved
stop_missed G phi zero s k r l = refl
stop_missed G phi (suc f) s k (here _ v m is e d t) l = absurd (omega (arith, mode_iterations G (s.done + 1) v m))
stop_missed G phi (suc f) s k (later _ v m is _ e d t r) l = rw (e, d, t) (stop_missed G phi f (moved s m) k r (omega arith))

-- so a run that stopped is within it
pub stop_within : (G : Given) (phi : Float) (f : ℕ) (s : State) (k : Mode) → (run_from G phi f s).ending ≡ stopped k → k.iterations ≤ s.done + f
stop_within G phi f s k h =
    let missed = stop_missed G phi f s k (first_stop G phi f s k h) in
    ⊎_elim (λ (l : s.done + f < k.iterations). absurd (ff (ap is_stopped (sym (missed l) ∙ h)))) (λ l. l) (lt_or_ge (s.done + f) k.iterations)

-- ---- the run from its start: it stops with the mode k exactly when k is the first stop, and within the limit
pub run_stops : (G : Given) (phi : Float) (L : ℕ) (mu : List Float) (k : Mode) → ((run_of G phi L mu).ending ≡ stopped k) ↔ (FirstStop G phi (start_at G mu) k × (k.iterations ≤ L))
unfolding run_of items_before start_at
run_stops G phi L mu k =
    let s = start_at G mu in
    (λ h. (first_stop G phi L s k h, omega (arith, stop_within G phi L s k h)), λ h. stop_taken G phi L s k h.0 (omega (arith, h.1)))
