-- The run of the inner fit: start, iterations, stop test, ends 10 to 13. The starting means are a parameter. Document 01, "The inner fit"; document 02, P10. Assumes nothing.
use Rattle.std.specs.Prelude.{◌≡◌, List, [], ◌∷◌, ◌++◌, Bool, true, false, ℕ, zero, suc, ◌+◌, Float}
use Rattle.base.specs.Number.{huge_f}
use Rattle.base.specs.Sum.{◌!◌}
use Rattle.base.specs.List.{build}
use Rattle.model.specs.Items.{Item, a_fit, a_solve}
use Rattle.model.specs.declared.ends.End.{End}
use Rattle.model.specs.declared.ends.End.TheVariants.{NoStep, NoStop}
use Rattle.model.specs.declared.names.Start.{Start}
use Rattle.model.specs.declared.names.Start.TheVariants.{Usual, Trials}
use Rattle.family.specs.Link.{link_fun}
use Rattle.family.specs.Family.{initialize_mu, trials_mean}
use Rattle.family.specs.declared.carried.CarriedFamily.{CarriedFamily}
use Rattle.family.specs.declared.carried.CarriedLink.{CarriedLink}
use Rattle.family_lists.specs.Lists.{weight_at}
use Rattle.rule.specs.Given.{Given, n_of, plus_offset}
use Rattle.rule.specs.Solve.{Solved, Solve, solved, unsolved, solve_of}
use Rattle.rule.specs.Try.{Move, Search, found_move, no_move, tries_of, trial_of}
use Rattle.rule.specs.Stop.{Mode, mode_of, stops}

-- how an inner fit ends: it stopped, or it has no result
pub data Ending : Type 0 where
  stopped : Mode → Ending
  failed : End → Ending

-- how it ends, and what it did
pub record Outcome : Type 0 where
  pub ending : Ending
  pub items : List Item

-- between iterations: how many are done, the accepted predictor with its means, the last PWRSS
pub record State : Type 0 where
  pub done : ℕ
  pub eta : List Float
  pub mu : List Float
  pub old : Float

-- items before those of the rest
unfoldable pub items_before : List Item → Outcome → Outcome
items_before is o = record { ending = o.ending; items = is ++ o.items }

-- an end without a result, after these items
unfoldable pub failed_after : List Item → End → Outcome
failed_after is e = record { ending = failed e; items = is }

-- by the stop test: the mode, or the rest of the run
unfoldable pub after_stop : Bool → Mode → (State → Outcome) → State → Outcome
after_stop true m rest s = record { ending = stopped m; items = [] }
after_stop false m rest s = rest s

-- the state after an accepted move
unfoldable pub moved : State → Move → State
moved s m = record { done = s.done + 1; eta = m.eta; mu = m.mu; old = m.pwrss }

-- by the tries of an iteration: end 12 where none was accepted
unfoldable pub after_search : Search → Given → Solved → State → (State → Outcome) → Outcome
after_search (no_move is) G v s rest = failed_after (a_solve ∷ is) NoStep
after_search (found_move m is) G v s rest =
    items_before (a_solve ∷ is) (after_stop (stops s.old m.pwrss) (mode_of G (s.done + 1) v m) rest (moved s m))

-- by the solve of an iteration: ends 10 and 11 where there is none
unfoldable pub after_solve : Solve → Given → State → (State → Outcome) → Outcome
after_solve (unsolved e) G s rest = failed_after [] e
after_solve (solved v) G s rest = after_search (tries_of (trial_of G v s.eta)) G v s rest

-- the run from a state on, with f iterations left: end 13 where there is none left
unfoldable pub run_from : Given → Float → ℕ → State → Outcome
run_from G phi zero s = failed_after [] NoStop
run_from G phi (suc f) s = after_solve (solve_of G phi s.eta s.mu) G s (run_from G phi f)

-- the starting mean of a response y with weight w: by `initialize_mu`, or with the weight as the number of trials (document 02, P10)
unfoldable pub start_mean : Start → CarriedFamily → Float → Float → Float
start_mean Usual family w y = initialize_mu family y
start_mean Trials family w y = trials_mean w y

-- the starting mean of observation i, whose weight is 1 where there are none
unfoldable pub start_mean_at : Start → CarriedFamily → (y weights : List Float) → ℕ → Float
start_mean_at start family y weights i = start_mean start family (weight_at weights i) (y ! i)

-- the starting means
unfoldable pub start_means : Start → Given → List Float
start_means start G = build (start_mean_at start G.family G.y G.weights) (n_of G)

-- eta of observation i: link (mu), plus offset where there is one
unfoldable pub start_eta_at : CarriedLink → List Float → List Float → ℕ → Float
start_eta_at link offset mu i = plus_offset offset i (link_fun link (mu ! i))

-- the starting predictor
unfoldable pub start_eta : Given → List Float → List Float
start_eta G mu = build (start_eta_at G.link G.design.offset mu) (n_of G)

-- before the first iteration
unfoldable pub start_at : Given → List Float → State
start_at G mu = record { done = 0; eta = start_eta G mu; mu = mu; old = huge_f }

-- the inner fit at phi from the starting means mu, with at most L iterations
unfoldable pub run_of : Given → Float → ℕ → List Float → Outcome
run_of G phi L mu = items_before (a_fit ∷ []) (run_from G phi L (start_at G mu))

-- ---- what a stop means

-- the run stops at its first iteration that passes the stop test: at this one, or, where this one fails the test, at the first after it
pub data FirstStop (G : Given) (phi : Float) : State → Mode → Type 0 where
  here : (s : State) (v : Solved) (m : Move) (is : List Item) → solve_of G phi s.eta s.mu ≡ solved v → tries_of (trial_of G v s.eta) ≡ found_move m is → stops s.old m.pwrss ≡ true
      → FirstStop G phi s (mode_of G (s.done + 1) v m)
  later : (s : State) (v : Solved) (m : Move) (is : List Item) (k : Mode) → solve_of G phi s.eta s.mu ≡ solved v → tries_of (trial_of G v s.eta) ≡ found_move m is → stops s.old m.pwrss ≡ false
      → FirstStop G phi (moved s m) k → FirstStop G phi s k
