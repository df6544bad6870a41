-- What a fit answers and leaves in the work slices. Document 01, "The inner fit" and "Numbers of an answer". Assumes nothing.
use Rattle.std.specs.Prelude.{◌≡◌, List, true, false, Float}
use Rattle.base.specs.Rows.{Only}
use Rattle.layout.specs.WorkRows.{rows_length}
use Rattle.layout.specs.WorkMatrices.{matrices_length}
use Rattle.layout.specs.WorkTerms.{terms_length}
use Rattle.rule.specs.Given.{Given, n_of, q_of}
use Rattle.pirls.specs.Inner.{HoldsResults}
use Rattle.dispersion.specs.Rounds.{Result, result, no_result, Total, Dispersed}
use Rattle.call.specs.Fit.{Fitted, answer_of}
use Rattle.rounds.specs.declared.totals.Fit.{Fit}

-- whether there is a result, and where its parts stand
abbrev pub FitTold : Result (Dispersed Fitted) → Given → (rows matrices : List Float) → Fit → Type 0
FitTold (no_result e) G r m a = (a.fitted ≡ false) × (a.in_second ≡ false)
FitTold (result d) G r m a = (a.fitted ≡ true) × (HoldsResults G d.last.mode a.in_second r m)

-- the answer is that of the fit T; nothing behind the named lengths has changed
pub record FitLeft (G : Given) (T : Total (Dispersed Fitted)) (r r' m m' t t' : List Float) (a : Fit) : Type 0 where
  pub told : FitTold T.outcome G r' m' a
  pub answered : a.answer ≡ answer_of T
  pub rows_only : Only 0 (rows_length (n_of G)) r r'
  pub matrices_only : Only 0 (matrices_length G.design.p (q_of G.design)) m m'
  pub terms_only : Only 0 terms_length t t'
