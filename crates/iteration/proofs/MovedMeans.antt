-- The means after a move are those of its predictor. Assumes nothing.
use mathlib.Core.Path.{◌≡◌, refl}
use mathlib.Core.Bool.{Bool, true, false}
use mathlib.Core.List.{List}
use Prim.Native.Nat.{ℕ, zero, suc}
use lib.Ieee.{Float}
use Rattle.base.specs.Number.{◌⊗◌, one_f, half_f, finite}
use Rattle.base.specs.Sum.{all_to, finite_at}
use Rattle.base.proofs.Fills.{build_at}
use Rattle.family.specs.Carried.{link_of}
use Rattle.model.specs.Caps.{tries_cap}
use Rattle.model.specs.Items.{Item, a_try}
use Rattle.rule.specs.Given.{Given, n_of}
use Rattle.rule.specs.Solve.{Solved}
use Rattle.rule.specs.Try.{Trial, candidate_of, fine_eta_at, mean_at, means_of, pwrss_of, Move, Tried, refused, moves, after_pwrss, try_pwrss, after_means, try_means, after_eta, try_eta, try_of, Search, found_move, no_move, item_before, after_try, tries_from, tries_of, trial_of}
use Rattle.working.specs.Met.{Met}

module _ (T : Trial) where
  -- a try that moves has the means of its predictor
  abbrev OwnTried : Tried → Type 0
  OwnTried (refused f) = Unit {0}
  OwnTried (moves m) = m.mu ≡ means_of T m.eta

  -- and so has a search that finds a move
  abbrev OwnFound : Search → Type 0
  OwnFound (no_move is) = Unit {0}
  OwnFound (found_move m is) = m.mu ≡ means_of T m.eta

  pwrss_own : (b : Bool) (c : List Float) (r : Float) → OwnTried (after_pwrss b c (means_of T c) r)
  unfolding after_pwrss
  pwrss_own false c r = tt
  pwrss_own true c r = refl

  means_own : (b : Bool) (c : List Float) → OwnTried (after_means b T c (means_of T c))
  unfolding after_means try_pwrss
  means_own false c = tt
  means_own true c = pwrss_own (finite (pwrss_of T c)) c (pwrss_of T c)

  eta_own : (b : Bool) (c : List Float) → OwnTried (after_eta b T c)
  unfolding after_eta try_means
  eta_own false c = tt
  eta_own true c = means_own (all_to T.n (finite_at (means_of T c))) c

  try_own : (step : Float) → OwnTried (try_of T step)
  unfolding try_of try_eta
  try_own step = eta_own (all_to T.n (fine_eta_at T.link (candidate_of T step))) (candidate_of T step)

  before_own : (i : Item) (x : Search) → OwnFound x → OwnFound (item_before i x)
  unfolding item_before
  before_own i (no_move is) h = tt
  before_own i (found_move m is) h = h

  after_own : (x : Tried) (rest : Float → Search) (step : Float) → OwnTried x → ((s : Float) → OwnFound (rest s)) → OwnFound (after_try x rest step)
  unfolding after_try
  after_own (refused f) rest step h k = before_own (a_try f) (rest (step ⊗ half_f)) (k (step ⊗ half_f))
  after_own (moves m) rest step h k = h

  from_own : (f : ℕ) (step : Float) → OwnFound (tries_from T f step)
  unfolding tries_from
  from_own zero step = tt
  from_own (suc f) step = after_own (try_of T step) (tries_from T f) step (try_own step) (λ s. from_own f s)

  -- the means of the move that the tries found
  pub move_means : (m : Move) (is : List Item) → tries_of T ≡ found_move m is → m.mu ≡ means_of T m.eta
  unfolding tries_of
  move_means m is e =
      let h : OwnFound (tries_from T (tries_cap (link_of T.link)) one_f) = from_own (tries_cap (link_of T.link)) one_f in
      rw e at h

-- one by one, after the solve v at the predictor prev
pub moved_met : (G : Given) (v : Solved) (prev : List Float) (m : Move) (is : List Item) → tries_of (trial_of G v prev) ≡ found_move m is → Met G.link (n_of G) m.eta m.mu
unfolding trial_of means_of mean_at
moved_met G v prev m is e =
    let h = move_means (trial_of G v prev) m is e in
    record { mean = λ i l. rw h (build_at (mean_at G.link m.eta) (n_of G) i l) }
