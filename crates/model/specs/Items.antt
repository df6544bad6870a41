-- What a run does, one item after another, and the account, which is their tally. Document 01, "The inner fit", its last paragraph, says what counts as a solve, a try and a point; document 02, P9, what became of each try. Assumes nothing.
use Rattle.std.specs.Prelude.{Bool, true, false, List, [], ◌∷◌, ℕ, ◌+◌}
use Rattle.model.specs.declared.counts.Account.{Account}

-- what became of a candidate: refused for its eta, for a mean, for its PWRSS, or accepted
pub data Fate : Type 0 where
  eta_refused mean_refused pwrss_refused accepted : Fate

-- an inner fit begins; an iteration gets as far as u; a candidate predictor is tried, with its fate; a term of a log sum is computed
pub data Item : Type 0 where
  a_fit a_solve : Item
  a_try : Fate → Item
  a_point : Item

-- the item is the start of an inner fit
abbrev pub is_fit : Item → Bool
is_fit a_fit = true
is_fit a_solve = false
is_fit (a_try f) = false
is_fit a_point = false

-- the item is a solve
abbrev pub is_solve : Item → Bool
is_solve a_fit = false
is_solve a_solve = true
is_solve (a_try f) = false
is_solve a_point = false

-- the item is a try, whatever became of it
abbrev pub is_try : Item → Bool
is_try a_fit = false
is_try a_solve = false
is_try (a_try f) = true
is_try a_point = false

-- the item is a point
abbrev pub is_point : Item → Bool
is_point a_fit = false
is_point a_solve = false
is_point (a_try f) = false
is_point a_point = true

-- the item is a try refused for its eta, the first test (document 02, P9)
abbrev pub is_eta : Item → Bool
is_eta a_fit = false
is_eta a_solve = false
is_eta (a_try eta_refused) = true
is_eta (a_try mean_refused) = false
is_eta (a_try pwrss_refused) = false
is_eta (a_try accepted) = false
is_eta a_point = false

-- the item is a try refused for a mean, its eta being fine (document 02, P9)
abbrev pub is_mean : Item → Bool
is_mean a_fit = false
is_mean a_solve = false
is_mean (a_try eta_refused) = false
is_mean (a_try mean_refused) = true
is_mean (a_try pwrss_refused) = false
is_mean (a_try accepted) = false
is_mean a_point = false

-- the item is a try refused for its PWRSS, eta and means being fine (document 02, P9)
abbrev pub is_pwrss : Item → Bool
is_pwrss a_fit = false
is_pwrss a_solve = false
is_pwrss (a_try eta_refused) = false
is_pwrss (a_try mean_refused) = false
is_pwrss (a_try pwrss_refused) = true
is_pwrss (a_try accepted) = false
is_pwrss a_point = false

-- the item is a try that is accepted (document 02, P9)
abbrev pub is_ok : Item → Bool
is_ok a_fit = false
is_ok a_solve = false
is_ok (a_try eta_refused) = false
is_ok (a_try mean_refused) = false
is_ok (a_try pwrss_refused) = false
is_ok (a_try accepted) = true
is_ok a_point = false

-- 1 where a test is passed
abbrev pub tick : Bool → ℕ
tick true = 1
tick false = 0

-- how many of the items pass a test
unfoldable pub count_of : (Item → Bool) → List Item → ℕ
count_of t [] = 0
count_of t (i ∷ is) = tick (t i) + count_of t is

-- the account of a run: how many of its items are fits, solves, tries and points, and how many tries each became of which (document 02, P9)
unfoldable pub tally : List Item → Account
tally is =
    record {
      fits = count_of is_fit is;
      solves = count_of is_solve is;
      tries = count_of is_try is;
      points = count_of is_point is;
      eta = count_of is_eta is;
      mean = count_of is_mean is;
      pwrss = count_of is_pwrss is;
      ok = count_of is_ok is;
    }
