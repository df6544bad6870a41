-- What the inner fit answers and leaves. Document 01, "The inner fit". Assumes nothing.
use Rattle.std.specs.Prelude.{Ok, Err}
use Rattle.std.specs.Prelude.{◌≡◌, List, Bool, false, not, ℕ, zero, suc, ◌*◌, Float}
use Rattle.base.specs.Rows.{row, Only}
use Rattle.factor.specs.Inverse.{cholesky_inverse}
use Rattle.layout.specs.WorkRows.{mu_row, deviance_row, rows_length}
use Rattle.layout.specs.WorkMatrices.{system_place, root_inverse_place, u_place, beta_place, matrices_length}
use Rattle.layout.specs.WorkTerms.{terms_length}
use Rattle.model.specs.Items.{tally}
use Rattle.model.specs.declared.counts.Account.{Account}
use Rattle.model.specs.declared.ends.End.{End}
use Rattle.rule.specs.Given.{Given, n_of, q_of}
use Rattle.rule.specs.Stop.{Mode}
use Rattle.rule.specs.Run.{Ending, stopped, failed, run_of}
use Rattle.stages.specs.Held.{eta_row}
use Rattle.stages.specs.declared.stops.AtStop.{AtStop}
use Rattle.pirls.specs.declared.run.InnerFit.{InnerFit}
use Rattle.pirls.specs.declared.run.Stopped.{Stopped}

-- in which row the predictor stands after so many iterations: the first before them, then in turn
unfoldable pub turned : ℕ → Bool
turned zero = false
turned (suc k) = not (turned k)

-- an inner fit without a result: its end and its account
abbrev pub failed_fit : End → Account → InnerFit
failed_fit e a = record { outcome = Err e; account = a }

-- an inner fit that stopped after so many iterations: its sums as the stop tells them
abbrev pub stopped_fit : AtStop → ℕ → Bool → Account → InnerFit
stopped_fit s k second a =
    record { outcome = Ok (record { iterations = k; in_second = second; deviance_sum = s.deviance_sum; fit = s.fit; laplace = s.laplace }); account = a }

-- the work slices hold what the results are made of: the accepted predictor in the row that is named, its means, the inverse of the normal matrix's factor, β and u
pub record HoldsResults (G : Given) (k : Mode) (second : Bool) (rows matrices : List Float) : Type 0 where
  pub place : second ≡ turned k.iterations
  pub eta : row (eta_row (n_of G) second) (n_of G) rows ≡ k.eta
  pub mu : row (mu_row (n_of G)) (n_of G) rows ≡ k.mu
  pub inverse : row (root_inverse_place G.design.p (q_of G.design)) (G.design.p * G.design.p) matrices ≡ cholesky_inverse G.design.p k.root
  pub beta : row (beta_place G.design.p (q_of G.design)) G.design.p matrices ≡ k.beta
  pub u : row (u_place G.design.p (q_of G.design)) (q_of G.design) matrices ≡ k.u

-- the answer and the work slices hold the mode: what the results are made of, the deviances in their row and A in the matrices
pub record HoldsMode (G : Given) (k : Mode) (rows matrices : List Float) (a : Stopped) : Type 0 where
  pub iterations : a.iterations ≡ k.iterations
  pub results : HoldsResults G k a.in_second rows matrices
  pub deviances : row (deviance_row (n_of G)) (n_of G) rows ≡ k.devs
  pub sum : a.deviance_sum ≡ k.dev_sum
  pub fit_term_lem : a.fit ≡ k.fit
  pub laplace_deviance : a.laplace ≡ k.laplace
  pub system : row system_place (q_of G.design * q_of G.design) matrices ≡ k.system

-- the answer says how the run ended
abbrev pub EndingTold : Ending → Given → (rows matrices : List Float) → InnerFit → Type 0
EndingTold (stopped k) G r m a = (s : Stopped) × (a.outcome ≡ Ok s) × HoldsMode G k r m s
EndingTold (failed e) G r m a = a.outcome ≡ Err e

-- the inner fit is the rule's run from the means mu, its account the tally of the run's items; nothing behind the named lengths has changed
pub record InnerLeft (G : Given) (phi : Float) (L : ℕ) (mu r r' m m' t t' : List Float) (a : InnerFit) : Type 0 where
  pub told : EndingTold (run_of G phi L mu).ending G r' m' a
  pub counted : a.account ≡ tally (run_of G phi L mu).items
  pub rows_only : Only 0 (rows_length (n_of G)) r r'
  pub matrices_only : Only 0 (matrices_length G.design.p (q_of G.design)) m m'
  pub terms_only : Only 0 terms_length t t'
