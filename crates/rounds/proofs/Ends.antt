-- What is told of a fit when its last inner fit has ended. Assumes nothing.
use mathlib.Core.Path.{◌≡◌, refl, sym}
use mathlib.Core.List.{List}
use mathlib.Core.Bool.{Bool, true, false}
use Prim.Native.Nat.{ℕ}
use lib.Ieee.{Float}
use Rattle.base.specs.Number.{one_f}
use Rattle.base.specs.Rows.{Only}
use Rattle.base.proofs.Rows.{only_none, only_trans}
use Rattle.layout.specs.WorkRows.{rows_length}
use Rattle.layout.specs.WorkMatrices.{matrices_length}
use Rattle.layout.specs.WorkTerms.{terms_length}
use Rattle.model.specs.Items.{tally}
use Rattle.model.specs.declared.counts.Account.{Account}
use Rattle.family.specs.Family.{uses_dispersion}
use Rattle.rule.specs.Given.{Given, n_of, q_of}
use Rattle.agq_rule.specs.Inner.{InnerEnd, with_mode, without_mode, inner_of}
use Rattle.dispersion.specs.Phi.{effective_n}
use Rattle.dispersion.specs.Rounds.{Total, Dispersed, with_flag, last_fit, dispersion_of, fixed_of}
use Rattle.call.specs.Fit.{Fitted, sum_of, result_by, total_of, inner_at, fit_by, fit_of, result_answer, answer_of}
use Rattle.inner.specs.Answered.{AnswerTold, AnswerLeft}
use Rattle.rounds.specs.Totals.{fit_from}
use Rattle.rounds.specs.Fitted.{FitTold, FitLeft}
use Rattle.inner.specs.declared.answers.InnerAnswer.{InnerAnswer}
use Rattle.rounds.specs.declared.totals.Fit.{Fit}

-- ---- by how the last inner fit ended
module _ (G : Given) (phi : Float) (flag : Bool) (b : Account) (r m : List Float) (a : InnerAnswer) (f : Fit) (ef : f ≡ fit_from a.outcome phi flag b) where
  end_told : (x : InnerEnd) → AnswerTold x G r m a → FitTold (with_flag flag phi (result_by x)) G r m f
  unfolding result_by with_flag fit_from
  end_told (with_mode k i) h =
      rw (ef, h.1) (refl, h.2.results)
  end_told (without_mode e) h = rw (ef, h) (refl, refl)

  end_answered : (x : InnerEnd) → AnswerTold x G r m a → f.answer ≡ result_answer (with_flag flag phi (result_by x)) b
  unfolding result_by with_flag fit_from result_answer
  end_answered (with_mode k i) h = rw (ef, h.1, h.2.deviance, h.2.order, h.2.why, h.2.iterations) refl
  end_answered (without_mode e) h = rw (ef, h) refl

-- ---- a fit that comes to what its last inner fit came to, with the account of all
module _ (G : Given) (mu : List Float) (wish L : ℕ) (phi : Float) (flag : Bool) (T : Total (Dispersed Fitted)) (eo : T.outcome ≡ with_flag flag phi (inner_at G mu wish L phi).outcome) (r₀ r r' m₀ m m' t₀ t t' : List Float)
    (ro : Only 0 (rows_length (n_of G)) r₀ r) (mo : Only 0 (matrices_length G.design.p (q_of G.design)) m₀ m) (to : Only 0 terms_length t₀ t) (a : InnerAnswer)
    (i : AnswerLeft G wish phi L mu r r' m m' t t' a) where
  pub ended : (b : Account) (f : Fit) → tally T.items ≡ b → f ≡ fit_from a.outcome phi flag b → FitLeft G T r₀ r' m₀ m' t₀ t' f
  unfolding inner_at total_of answer_of
  ended b f eb ef =
      let x = (inner_of G wish phi L mu).ending in
      record {
        told = rw eo (end_told G phi flag b r' m' a f ef x i.told);
        answered = rw (eo, eb) (end_answered G phi flag b r' m' a f ef x i.told);
        rows_only = only_trans ro i.rows_only;
        matrices_only = only_trans mo i.matrices_only;
        terms_only = only_trans to i.terms_only;
      }

-- ---- a family without dispersion: one inner fit at phi 1
pub fixed_ended : (G : Given) (mu : List Float) (wish L : ℕ) (r r' m m' t t' : List Float) (a : InnerAnswer) → AnswerLeft G wish one_f L mu r r' m m' t t' a → (f : Fit) → f ≡ fit_from a.outcome one_f true a.account
    → FitLeft G (fixed_of (inner_at G mu wish L)) r r' m m' t t' f
unfolding fixed_of last_fit inner_at total_of
fixed_ended G mu wish L r r' m m' t t' a i f ef =
    ended G mu wish L one_f true (fixed_of (inner_at G mu wish L)) refl r r r' m m m' t t t' (only_none 0 (rows_length (n_of G)) r) (only_none 0 (matrices_length G.design.p (q_of G.design)) m) (only_none 0 terms_length t) a i a.account f
    (sym i.counted) ef

-- ---- the fit by whether the dispersion is free
module _ (G : Given) (mu : List Float) (wish L : ℕ) (r r' m m' t t' : List Float) (f : Fit) where
  pub free_left : uses_dispersion G.family ≡ true → FitLeft G (dispersion_of (effective_n (n_of G) G.weights) sum_of (inner_at G mu wish L)) r r' m m' t t' f → FitLeft G (fit_of G mu wish L) r r' m m' t t' f
  unfolding fit_of fit_by
  free_left e h = rw e h

  pub fixed_left : uses_dispersion G.family ≡ false → FitLeft G (fixed_of (inner_at G mu wish L)) r r' m m' t t' f → FitLeft G (fit_of G mu wish L) r r' m m' t t' f
  unfolding fit_of fit_by
  fixed_left e h = rw e h
