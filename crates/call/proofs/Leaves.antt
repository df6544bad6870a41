-- What a call leaves, by its verdict and by what its fit comes to. Assumes nothing.
use Rattle.std.specs.Prelude.{Ok, Err}
use mathlib.Core.Path.{◌≡◌, refl}
use Prim.Native.Nat.{ℕ}
use native.Mathlib.Omega.{arith}
use Rattle.base.specs.List.{zero_at, fill_to}
use Rattle.model.specs.Account.{no_counts}
use Rattle.model.specs.Answer.{end_number, refusal_number, blank_answer, refused_answer, unfitted_answer, fitted_answer}
use Rattle.model.specs.Items.{tally}
use Rattle.model.specs.Names.{limit_of}
use Rattle.model.specs.declared.counts.Account.{Account}
use Rattle.model.specs.declared.ends.End.{End}
use Rattle.model.specs.declared.ends.Refusal.{Refusal}
use Rattle.model.specs.declared.sizes.Shape.{Shape}
use Rattle.model.specs.declared.sizes.Settings.{Settings}
use Rattle.model.proofs.Answers.{end_range}
use Rattle.layout.specs.WorkRows.{rows_length}
use Rattle.layout.specs.WorkMatrices.{matrices_length}
use Rattle.layout.specs.WorkTerms.{terms_length}
use Rattle.family.specs.declared.carried.CarriedFamily.{CarriedFamily}
use Rattle.family.specs.declared.carried.CarriedLink.{CarriedLink}
use Rattle.results.specs.Nine.{results_of}
use Rattle.agq_rule.specs.Inner.{why_by}
use Rattle.model.specs.Inputs.{Inputs}
use Rattle.table.specs.Table.{table_of}
use Rattle.dispersion.specs.Rounds.{Result, result, no_result, Total, Dispersed}
use Rattle.call.specs.Fit.{Fitted, fit_of, result_answer, answer_of}
use Rattle.call.specs.Call.{Lent, lengths_of, left, call_given, call_means, results_after, fit_left, call_by, call_of}

-- ---- a refusal: its number, nothing counted, every slice as it was lent
pub refused_left : (t : Settings) (s : Shape) (I : Inputs) (L : Lent) (r : Refusal) → table_of 1 t s I (lengths_of L) ≡ Err r → call_of t s I L ≡ left (blank_answer (refusal_number r) no_counts) L
unfolding call_of call_by refused_answer
refused_left t s I L r e = rw e refl

-- ---- an accepted call
-- the fit that it asks for
abbrev pub asked_fit : CarriedFamily → CarriedLink → Settings → Shape → Inputs → Total (Dispersed Fitted)
asked_fit f l t s I = fit_of (call_given f l t s I) (call_means f l t s I) t.n_agq (limit_of t.limit t.link)

pub accepted_left : (t : Settings) (s : Shape) (I : Inputs) (L : Lent) (f : CarriedFamily) (l : CarriedLink) → table_of 1 t s I (lengths_of L) ≡ Ok (f, l)
    → call_of t s I L ≡ fit_left t.n t.p t.rows (call_given f l t s I) (asked_fit f l t s I) L
unfolding call_of call_by
accepted_left t s I L f l e = rw e refl

-- its account is the tally of what was done, whatever it came to
pub answer_account : (x : Result (Dispersed Fitted)) (a : Account) → (result_answer x a).account ≡ a
unfolding result_answer unfitted_answer fitted_answer
answer_account (no_result e) a = refl
answer_account (result d) a = refl

zero_result : (x : Result (Dispersed Fitted)) (a : Account) → (result_answer x a).number ≡ 0 → (d : Dispersed Fitted) × (x ≡ result d)
unfolding result_answer unfitted_answer
zero_result (result d) a h = (d, refl)
zero_result (no_result e) a h = absurd (omega (arith, h, end_range e))

-- whatever it came to, the named lengths of the work slices are +0.0, their rest as it was
pub record WorkLeft (n p q : ℕ) (L M : Lent) : Type 0 where
  pub rows : M.rows ≡ fill_to (rows_length n) zero_at L.rows
  pub matrices : M.matrices ≡ fill_to (matrices_length p q) zero_at L.matrices
  pub terms : M.terms ≡ fill_to terms_length zero_at L.terms

module _ (t : Settings) (s : Shape) (I : Inputs) (L : Lent) (f : CarriedFamily) (l : CarriedLink) (e : table_of 1 t s I (lengths_of L) ≡ Ok (f, l)) where
  pub accepted_work : WorkLeft t.n t.p t.rows L (call_of t s I L).lent
  unfolding fit_left
  accepted_work = rw (accepted_left t s I L f l e) (record { rows = refl; matrices = refl; terms = refl })

  pub accepted_account : (call_of t s I L).answer.account ≡ tally (asked_fit f l t s I).items
  unfolding fit_left answer_of
  accepted_account = rw (accepted_left t s I L f l e) (answer_account (asked_fit f l t s I).outcome (tally (asked_fit f l t s I).items))

  -- ends 10 to 13: the results are as they were lent
  pub unfitted_results : (end : End) → (asked_fit f l t s I).outcome ≡ no_result end → (call_of t s I L).lent.results ≡ L.results
  unfolding fit_left results_after
  unfitted_results end q = rw (accepted_left t s I L f l e, q) refl

  pub unfitted_answer_lem : (end : End) → (asked_fit f l t s I).outcome ≡ no_result end → (call_of t s I L).answer ≡ blank_answer (end_number end) (tally (asked_fit f l t s I).items)
  unfolding fit_left answer_of result_answer unfitted_answer
  unfitted_answer_lem end q = rw (accepted_left t s I L f l e, q) refl

  -- number 0: the results are those of the last mode
  pub fitted_results : (d : Dispersed Fitted) → (asked_fit f l t s I).outcome ≡ result d → (call_of t s I L).lent.results ≡ results_of (call_given f l t s I) d.last.mode
  unfolding fit_left results_after
  fitted_results d q = rw (accepted_left t s I L f l e, q) refl

  pub fitted_number : (d : Dispersed Fitted) → (asked_fit f l t s I).outcome ≡ result d → (call_of t s I L).answer.number ≡ 0
  unfolding fit_left answer_of result_answer fitted_answer
  fitted_number d q = rw (accepted_left t s I L f l e, q) refl

  -- and only a result is told under it
  pub zero_fitted : (call_of t s I L).answer.number ≡ 0 → (d : Dispersed Fitted) × ((asked_fit f l t s I).outcome ≡ result d)
  unfolding fit_left answer_of
  zero_fitted h =
      let fit = asked_fit f l t s I in
      zero_result fit.outcome (tally fit.items) (rw (accepted_left t s I L f l e) at h)

  -- why it stayed with Laplace: what the quadrature of the last inner fit answered, as it was answered there
  pub fitted_why : (d : Dispersed Fitted) → (asked_fit f l t s I).outcome ≡ result d → (call_of t s I L).answer.why ≡ why_by d.last.integral
  unfolding fit_left answer_of result_answer fitted_answer
  fitted_why d q = rw (accepted_left t s I L f l e, q) refl

  pub unfitted_why : (end : End) → (asked_fit f l t s I).outcome ≡ no_result end → (call_of t s I L).answer.why ≡ 0
  unfolding fit_left answer_of result_answer unfitted_answer
  unfitted_why end q = rw (accepted_left t s I L f l e, q) refl
