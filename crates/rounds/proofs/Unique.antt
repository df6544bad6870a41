-- The contract of `fit_in` leaves one answer; that what the results are made of is the same is `pirls/proofs/Unique.results_once`. Assumes nothing.
use mathlib.Core.Path.{◌≡◌, sym, ◌∙◌}
use mathlib.Core.List.{List}
use lib.Ieee.{Float}
use Rattle.rule.specs.Given.{Given}
use Rattle.dispersion.specs.Rounds.{Result, result, no_result, Total, Dispersed}
use Rattle.call.specs.Fit.{Fitted}
use Rattle.rounds.specs.Fitted.{FitTold, FitLeft}
use Rattle.rounds.specs.declared.totals.Fit.{Fit}

same_fit : {a b : Fit} → a.fitted ≡ b.fitted → a.in_second ≡ b.in_second → a.answer ≡ b.answer → a ≡ b
same_fit f s e = λ i. record { fitted = f i; in_second = s i; answer = e i }

told_once : (x : Result (Dispersed Fitted)) (G : Given) (r r' m m' : List Float) (a b : Fit) → a.answer ≡ b.answer → FitTold x G r m a → FitTold x G r' m' b → a ≡ b
told_once (no_result d) G r r' m m' a b e h k = same_fit (h.0 ∙ sym k.0) (h.1 ∙ sym k.1) e
told_once (result d) G r r' m m' a b e h k = same_fit (h.0 ∙ sym k.0) (h.1.place ∙ sym k.1.place) e

-- one answer
pub fit_once : (G : Given) (T : Total (Dispersed Fitted)) (r r' r'' m m' m'' t t' t'' : List Float) (a b : Fit) → FitLeft G T r r' m m' t t' a → FitLeft G T r r'' m m'' t t'' b → a ≡ b
fit_once G T r r' r'' m m' m'' t t' t'' a b h k = told_once T.outcome G r' r'' m' m'' a b (h.answered ∙ sym k.answered) h.told k.told
