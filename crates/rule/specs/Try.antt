-- The tries of one iteration. Document 01, "The inner fit", its paragraph on tries. Assumes nothing.
use Rattle.std.specs.Prelude.{List, [], ◌∷◌, Bool, true, false, not, ◌&&◌, ◌||◌, ℕ, zero, suc, Float}
use Rattle.std.specs.Float.Ieee.{lt}
use Rattle.base.specs.Number.{◌⊕◌, ◌⊖◌, ◌⊗◌, one_f, half_f, eps_f, finite}
use Rattle.base.specs.Sum.{◌!◌, all_to, finite_at, dot_of}
use Rattle.base.specs.List.{build}
use Rattle.model.specs.Names.{is_inverse}
use Rattle.model.specs.Caps.{tries_cap}
use Rattle.model.specs.Items.{Item, a_try, Fate, eta_refused, mean_refused, pwrss_refused, accepted}
use Rattle.family.specs.Carried.{link_of}
use Rattle.family.specs.Link.{link_inv}
use Rattle.family.specs.declared.carried.CarriedLink.{CarriedLink}
use Rattle.rule.specs.Given.{Given, q_of, n_of}
use Rattle.rule.specs.Solve.{Solved}

-- what the tries of an iteration look at: the previous predictor, and w, z, u and the raw predictor of the solve
pub record Trial : Type 0 where
  pub link : CarriedLink
  pub n : ℕ
  pub q : ℕ
  pub prev : List Float
  pub w : List Float
  pub z : List Float
  pub u : List Float
  pub raw : List Float

-- ---- a candidate and its three tests

-- previous + (raw - previous)·step
unfoldable pub candidate_at : List Float → List Float → Float → ℕ → Float
candidate_at prev raw step i = (prev ! i) ⊕ (((raw ! i) ⊖ (prev ! i)) ⊗ step)

-- the candidate predictor
unfoldable pub candidate_of : Trial → Float → List Float
candidate_of T step = build (candidate_at T.prev T.raw step) T.n

-- an eta that can be accepted: finite, and with the inverse link above E
unfoldable pub fine_eta : CarriedLink → Float → Bool
fine_eta link e = finite e && (not (is_inverse (link_of link)) || lt eps_f e)

-- eta of observation i can be accepted
abbrev pub fine_eta_at : CarriedLink → List Float → ℕ → Bool
fine_eta_at link c i = fine_eta link (c ! i)

-- the mean of observation i
unfoldable pub mean_at : CarriedLink → List Float → ℕ → Float
mean_at link eta i = link_inv link (eta ! i)

-- the means of a predictor
unfoldable pub means_of : Trial → List Float → List Float
means_of T eta = build (mean_at T.link eta) T.n

-- w·(z - candidate)²
unfoldable pub square_at : List Float → List Float → List Float → ℕ → Float
square_at w z c i = let d = (z ! i) ⊖ (c ! i) in (w ! i) ⊗ (d ⊗ d)

-- s, and then f 0, f 1, .. f (n - 1) added
unfoldable pub add_to : ℕ → Float → (ℕ → Float) → Float
add_to zero s f = s
add_to (suc n) s f = add_to n s f ⊕ f n

-- PWRSS: u·u, then w·(z - candidate)² added
unfoldable pub pwrss_of : Trial → List Float → Float
pwrss_of T c = add_to T.n (dot_of T.q T.u T.u) (square_at T.w T.z c)

-- ---- a try

-- an accepted candidate with its means and its PWRSS
pub record Move : Type 0 where
  pub eta : List Float
  pub mu : List Float
  pub pwrss : Float

-- what became of a candidate: a move, or the first of the three tests that failed, each over all observations
pub data Tried : Type 0 where
  refused : Fate → Tried
  moves : Move → Tried

-- by the third test, of PWRSS
unfoldable pub after_pwrss : Bool → List Float → List Float → Float → Tried
after_pwrss false c m r = refused pwrss_refused
after_pwrss true c m r = moves (record { eta = c; mu = m; pwrss = r })

-- the third test
unfoldable pub try_pwrss : List Float → List Float → Float → Tried
try_pwrss c m r = after_pwrss (finite r) c m r

-- by the second test, of the means
unfoldable pub after_means : Bool → Trial → List Float → List Float → Tried
after_means false T c m = refused mean_refused
after_means true T c m = try_pwrss c m (pwrss_of T c)

-- the second test
unfoldable pub try_means : Trial → List Float → List Float → Tried
try_means T c m = after_means (all_to T.n (finite_at m)) T c m

-- by the first test, of each eta
unfoldable pub after_eta : Bool → Trial → List Float → Tried
after_eta false T c = refused eta_refused
after_eta true T c = try_means T c (means_of T c)

-- the first test
unfoldable pub try_eta : Trial → List Float → Tried
try_eta T c = after_eta (all_to T.n (fine_eta_at T.link c)) T c

-- the try with a step
unfoldable pub try_of : Trial → Float → Tried
try_of T step = try_eta T (candidate_of T step)

-- ---- the tries

-- the move that was found, if one was, and the items
pub data Search : Type 0 where
  found_move : Move → List Item → Search
  no_move : List Item → Search

-- one item before the others
unfoldable pub item_before : Item → Search → Search
item_before i (found_move m is) = found_move m (i ∷ is)
item_before i (no_move is) = no_move (i ∷ is)

-- by what became of a try: the rest goes on with half the step
unfoldable pub after_try : Tried → (Float → Search) → Float → Search
after_try (moves m) rest step = found_move m (a_try accepted ∷ [])
after_try (refused f) rest step = item_before (a_try f) (rest (step ⊗ half_f))

-- at most f tries, from a step on
unfoldable pub tries_from : Trial → ℕ → Float → Search
tries_from T zero step = no_move []
tries_from T (suc f) step = after_try (try_of T step) (tries_from T f) step

-- the tries of an iteration: from step 1, at most 25, with the inverse link 100
unfoldable pub tries_of : Trial → Search
tries_of T = tries_from T (tries_cap (link_of T.link)) one_f

-- what they look at, after the solve s at the predictor prev
unfoldable pub trial_of : Given → Solved → List Float → Trial
trial_of G s prev = record { link = G.link; n = n_of G; q = q_of G.design; prev = prev; w = s.w; z = s.z; u = s.u; raw = s.raw }
