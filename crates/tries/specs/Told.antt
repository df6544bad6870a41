-- What the answers of a try and of the tries say in the rule's words, and what they leave in the work slice. Document 01, "The inner fit", its paragraph on tries; document 02, P9. Assumes nothing.
use Rattle.tries.specs.declared.search.TryRefusal.{TryRefusal}
use Rattle.std.specs.Prelude.{Result, Ok, Err}
use Rattle.tries.specs.declared.search.TryRefusal.TheVariants.{Eta}
use Rattle.tries.specs.declared.search.TryRefusal.TheVariants.{Mean}
use Rattle.tries.specs.declared.search.TryRefusal.TheVariants.{Pwrss}
use Rattle.std.specs.Prelude.{◌≡◌, List, cond, ℕ, ◌+◌, ◌≤◌, length, Float}
use Rattle.base.specs.Sum.{all_to}
use Rattle.base.specs.Rows.{row, Apart, OnlyTwo}
use Rattle.model.specs.Account.{AtMost}
use Rattle.model.specs.Items.{Fate, eta_refused, mean_refused, pwrss_refused, accepted, tally}
use Rattle.model.specs.declared.counts.Account.{Account}
use Rattle.family.specs.declared.carried.CarriedLink.{CarriedLink}
use Rattle.rule.specs.Try.{Trial, fine_eta_at, candidate_of, means_of, Move, Tried, refused, moves, try_of, Search, found_move, no_move, tries_of}

-- ---- the work slice

-- the four rows lie in the work slice, those that are written apart from the others; w and z are long enough for n, and u for q
pub record Room (n q prev next raw mu : ℕ) (u w z rows : List Float) : Type 0 where
  pub prev_in : prev + n ≤ length rows
  pub next_in : next + n ≤ length rows
  pub raw_in : raw + n ≤ length rows
  pub mu_in : mu + n ≤ length rows
  pub prev_next : Apart prev n next n
  pub raw_next : Apart raw n next n
  pub prev_mu : Apart prev n mu n
  pub raw_mu : Apart raw n mu n
  pub next_mu : Apart next n mu n
  pub u_long : q ≤ length u
  pub w_long : n ≤ length w
  pub z_long : n ≤ length z

-- what the tries look at, as it stands in the work slice
abbrev pub trial_in : CarriedLink → (n q prev raw : ℕ) (u w z rows : List Float) → Trial
trial_in link n q prev raw u w z rows = record { link = link; n = n; q = q; prev = row prev n rows; w = w; z = z; u = u; raw = row raw n rows }

-- ---- a try

-- what became of the candidate c with the means m
abbrev pub tell_try : Result Float TryRefusal → List Float → List Float → Tried
tell_try (Err Eta) c m = refused eta_refused
tell_try (Err Mean) c m = refused mean_refused
tell_try (Err Pwrss) c m = refused pwrss_refused
tell_try (Ok p) c m = moves (record { eta = c; mu = m; pwrss = p })

-- what became of it, as the items of a run tell it: the first test that it failed, or accepted (document 02, P9)
abbrev pub fate_of : Result Float TryRefusal → Fate
fate_of (Err Eta) = eta_refused
fate_of (Err Mean) = mean_refused
fate_of (Err Pwrss) = pwrss_refused
fate_of (Ok p) = accepted

-- a try leaves the candidate in the row at next, and its means in the row at mu where the first test let them be formed
pub record TryDone (T : Trial) (next mu : ℕ) (step : Float) (before after : List Float) (r : Result Float TryRefusal) : Type 0 where
  pub says : tell_try r (row next T.n after) (row mu T.n after) ≡ try_of T step
  pub candidate : row next T.n after ≡ candidate_of T step
  pub means : row mu T.n after ≡ cond (all_to T.n (fine_eta_at T.link (candidate_of T step))) (means_of T (candidate_of T step)) (row mu T.n before)
  pub only : OnlyTwo next T.n mu T.n before after

-- ---- the tries

-- a search in short: the move, if one was found, and the account of the tries
pub data Brief : Type 0 where
  found : Move → Account → Brief
  none : Account → Brief

-- a search without its items but for their tally
abbrev pub briefly : Search → Brief
briefly (found_move m is) = found m (tally is)
briefly (no_move is) = none (tally is)

-- what became of the tries, c the last candidate and m its means
abbrev pub tell_tries : Result (Float × Account) Account → List Float → List Float → Brief
tell_tries (Ok (p, a)) c m = found (record { eta = c; mu = m; pwrss = p }) a
tell_tries (Err a) c m = none a

-- what they count
abbrev pub made_in : Result (Float × Account) Account → Account
made_in (Ok (p, a)) = a
made_in (Err a) = a

-- the most that k tries count: each part of them no more than all (document 02, P9), and nothing else
abbrev pub tries_to : ℕ → Account
tries_to k = record { fits = 0; solves = 0; tries = k; points = 0; eta = k; mean = k; pwrss = k; ok = k }

-- the tries leave an accepted candidate in the row at next and its means in the row at mu
pub record TriesDone (T : Trial) (next mu : ℕ) (before after : List Float) (r : Result (Float × Account) Account) : Type 0 where
  pub says : tell_tries r (row next T.n after) (row mu T.n after) ≡ briefly (tries_of T)
  pub only : OnlyTwo next T.n mu T.n before after
  pub few : AtMost (tries_to 100) (made_in r)
