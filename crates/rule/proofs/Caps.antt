-- The caps of an inner fit: at most L solves, at most 25 tries a solve and with the inverse link 100, no point, and one fit; those of the tries' parts follow. Assumes nothing.
use mathlib.Core.Path.{◌≡◌, refl}
use mathlib.Core.Bool.{Bool, true, false}
use mathlib.Core.List.{List, [], ◌∷◌, ◌++◌}
use Prim.Native.Nat.{ℕ, zero, suc, ◌+◌, ◌*◌, ◌≤◌}
use native.Mathlib.Nat.{mul-suc}
use native.Mathlib.Omega.{arith}
use lib.Ieee.{Float}
use Rattle.base.specs.Number.{◌⊗◌, one_f, half_f}
use Rattle.model.specs.Account.{AtMost}
use Rattle.model.specs.Caps.{tries_cap, inner_cap_of}
use Rattle.model.specs.Items.{Item, a_solve, a_try, is_fit, is_solve, is_try, is_point, count_of, tally}
use Rattle.model.proofs.Parts.{tally_parts, parts_capped}
use Rattle.model.proofs.Tallies.{count_append}
use Rattle.family.specs.Carried.{link_of}
use Rattle.rule.specs.Given.{Given}
use Rattle.rule.specs.Solve.{Solved, Solve, solved, unsolved, solve_of}
use Rattle.rule.specs.Try.{Trial, Tried, refused, moves, Search, found_move, no_move, item_before, try_of, after_try, tries_from, tries_of, trial_of}
use Rattle.rule.specs.Stop.{Mode, mode_of, stops}
use Rattle.rule.specs.Run.{Outcome, State, items_before, failed_after, after_stop, moved, after_search, after_solve, run_from, start_at, run_of}
use Rattle.rule.proofs.Accepted.{items_in, run_accepts}

-- ---- the tries of one solve
-- f items at most, and every one a try
pub record Tries (f : ℕ) (is : List Item) : Type 0 where
  pub fits : count_of is_fit is ≡ 0
  pub solves : count_of is_solve is ≡ 0
  pub tries : count_of is_try is ≤ f
  pub points : count_of is_point is ≡ 0

no_tries : Tries 0 []
unfolding count_of
no_tries = record { fits = refl; solves = refl; tries = omega arith; points = refl }

one_more : (f : ℕ) (t : Item) (x : Search) → Tries 1 (t ∷ []) → Tries f (items_in x) → Tries (suc f) (items_in (item_before t x))
unfolding item_before count_of
one_more f t (found_move m is) o r = record { fits = omega (arith, o, r); solves = omega (arith, o, r); tries = omega (arith, o, r); points = omega (arith, o, r) }
one_more f t (no_move is) o r = record { fits = omega (arith, o, r); solves = omega (arith, o, r); tries = omega (arith, o, r); points = omega (arith, o, r) }

tries_few : (f : ℕ) (x : Tried) (rest : Float → Search) (step : Float) → ((st : Float) → Tries f (items_in (rest st))) → Tries (suc f) (items_in (after_try x rest step))
unfolding after_try count_of
tries_few f (moves m) rest step h = record { fits = refl; solves = refl; tries = omega arith; points = refl }
tries_few f (refused t) rest step h =
    one_more f (a_try t) (rest (step ⊗ half_f)) (record { fits = refl; solves = refl; tries = omega arith; points = refl }) (h (step ⊗ half_f))

tries_from_lem : (T : Trial) (f : ℕ) (step : Float) → Tries f (items_in (tries_from T f step))
unfolding tries_from
tries_from_lem T zero step = no_tries
tries_from_lem T (suc f) step = tries_few f (try_of T step) (tries_from T f) step (λ st. tries_from_lem T f st)

pub tries_of_lem : (T : Trial) → Tries (tries_cap (link_of T.link)) (items_in (tries_of T))
unfolding tries_of
tries_of_lem T = tries_from_lem T (tries_cap (link_of T.link)) one_f

-- ---- the iterations
-- f solves at most, c·f tries, no inner fit begun and no point
record Runs (c f : ℕ) (is : List Item) : Type 0 where
  fits : count_of is_fit is ≡ 0
  solves : count_of is_solve is ≤ f
  tries : count_of is_try is ≤ c * f
  points : count_of is_point is ≡ 0

nothing : (c f : ℕ) → Runs c f []
unfolding count_of
nothing c f = record { fits = refl; solves = omega arith; tries = omega arith; points = refl }

-- a solve with its tries
solve_tries : (c f : ℕ) (is : List Item) → Tries c is → Runs c (suc f) (a_solve ∷ is)
unfolding count_of
solve_tries c f is t =
    record { fits = omega (arith, t); solves = omega (arith, t); tries = omega (arith, t, mul-suc c f); points = omega (arith, t) }

-- and what follows it
then_runs : (c f : ℕ) (is js : List Item) → Tries c is → Runs c f js → Runs c (suc f) (a_solve ∷ is ++ js)
unfolding count_of
then_runs c f is js t r =
    record {
      fits = omega (arith, t, r, count_append is_fit is js);
      solves = omega (arith, t, r, count_append is_solve is js);
      tries = omega (arith, t, r, mul-suc c f, count_append is_try is js);
      points = omega (arith, t, r, count_append is_point is js);
    }

module _ (G : Given) (c f : ℕ) (s : State) (rest : State → Outcome) (h : (t : State) → Runs c f (rest t).items) where
  stop_runs : (b : Bool) (m : Mode) (t : State) → Runs c f (after_stop b m rest t).items
  unfolding after_stop
  stop_runs true m t = nothing c f
  stop_runs false m t = h t

  search_runs : (x : Search) (v : Solved) → Tries c (items_in x) → Runs c (suc f) (after_search x G v s rest).items
  unfolding after_search items_before failed_after
  search_runs (no_move is) v t = solve_tries c f is t
  search_runs (found_move m is) v t =
      then_runs c f is (after_stop (stops s.old m.pwrss) (mode_of G (s.done + 1) v m) rest (moved s m)).items t (stop_runs (stops s.old m.pwrss) (mode_of G (s.done + 1) v m) (moved s m))

run_from_lem : (G : Given) (phi : Float) (f : ℕ) (s : State) → Runs (tries_cap (link_of G.link)) f (run_from G phi f s).items
unfolding run_from failed_after after_solve trial_of
run_from_lem G phi zero s = nothing (tries_cap (link_of G.link)) 0
run_from_lem G phi (suc f) s = by_solve (solve_of G phi s.eta s.mu) (λ t. run_from_lem G phi f t)
  where
    by_solve : (x : Solve) → ((t : State) → Runs (tries_cap (link_of G.link)) f (run_from G phi f t).items) → Runs (tries_cap (link_of G.link)) (suc f) (after_solve x G s (run_from G phi f)).items
    by_solve (unsolved e) h = nothing (tries_cap (link_of G.link)) (suc f)
    by_solve (solved v) h = search_runs G (tries_cap (link_of G.link)) f s (run_from G phi f) h (tries_of (trial_of G v s.eta)) v (tries_of_lem (trial_of G v s.eta))

-- ---- the inner fit: one fit, at most L solves and 25·L tries, with the inverse link 100·L; no part of the tries is above them, and no more are accepted than there are solves
pub run_capped : (G : Given) (phi : Float) (L : ℕ) (mu : List Float) → AtMost (inner_cap_of G.design.shape (link_of G.link) L) (tally (run_of G phi L mu).items)
unfolding run_of items_before tally inner_cap_of count_of
run_capped G phi L mu =
    let r = run_from_lem G phi L (start_at G mu) in
    parts_capped _ _ (tally_parts (run_of G phi L mu).items) (run_accepts G phi L mu) (omega (arith, r.fits)) (omega (arith, r.solves)) (omega (arith, r.tries)) (omega (arith, r.points))
    (omega arith) (omega arith) (omega arith) (omega arith)

-- ---- no point is among its items
pub run_points : (G : Given) (phi : Float) (L : ℕ) (mu : List Float) → count_of is_point (run_of G phi L mu).items ≡ 0
unfolding run_of items_before count_of
run_points G phi L mu = omega (arith, (run_from_lem G phi L (start_at G mu)).points)
