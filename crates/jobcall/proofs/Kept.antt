-- A call that returns another number than 0 leaves all buffers but the counts as they were lent. Assumes nothing.
use Rattle.std.specs.Prelude.{Ok, Err, Result}
use mathlib.Core.Path.{◌≡◌, refl}
use mathlib.Core.Bool.{Bool, true, false}
use mathlib.Core.List.{List}
use Prim.Native.Nat.{ℕ}
use borrow.Author.Tests.{ne_eqb}
use lib.Dec.{leb}
use lib.Ieee.{Float}
use lib.ListN.{length}
use Rattle.model.specs.Account.{no_counts}
use Rattle.model.specs.Answer.{end_number, refusal_number, blank_answer}
use Rattle.model.specs.declared.ends.End.{End}
use Rattle.model.specs.declared.ends.End.TheVariants.{SystemPivot, NormalPivot, NoStep, NoStop}
use Rattle.model.specs.declared.ends.Refusal.{Refusal}
use Rattle.model.specs.declared.sizes.Shape.{Shape}
use Rattle.model.specs.declared.sizes.Settings.{Settings}
use Rattle.job.specs.Job.{Read, faulty, sound, read_of}
use Rattle.model.specs.Inputs.{Inputs}
use Rattle.table.specs.Table.{table_of}
use Rattle.family.specs.declared.carried.CarriedFamily.{CarriedFamily}
use Rattle.family.specs.declared.carried.CarriedLink.{CarriedLink}
use Rattle.dispersion.specs.Rounds.{Result as FitResult, result, no_result, Dispersed}
use Rattle.call.specs.Fit.{Fitted}
use Rattle.call.specs.Call.{Lent, lengths_of, call_of}
use Rattle.call.proofs.Leaves.{refused_left, asked_fit, unfitted_answer_lem, fitted_number}
use Rattle.jobfit.specs.Done.{lent_for, done, results_by, done_of, done_for}
use Rattle.jobfit.proofs.Lent.{refusal_some}
use Rattle.jobcall.specs.Told.{Buffers, counts_length, returned_by, told_by, answered, counted, with_theta, fit_job_of, fit_job_theta_of}

-- all but the counts is as lent
pub record AsLent (before after : Buffers) : Type 0 where
  pub rows : after.rows ≡ before.rows
  pub matrices : after.matrices ≡ before.matrices
  pub terms : after.terms ≡ before.terms
  pub results : after.results ≡ before.results

end_returned : (e : End) → returned_by (end_number e) ≡ 0
unfolding returned_by
end_returned SystemPivot = refl
end_returned NormalPivot = refl
end_returned NoStep = refl
end_returned NoStop = refl

fitted_returned : returned_by 0 ≡ 0
unfolding returned_by
fitted_returned = refl

-- ---- one call
module _ (t : Settings) (s : Shape) (I : Inputs) (rows matrices terms results : List Float) where
  abbrev given : Lent
  given = lent_for t rows matrices terms results

  -- an accepted call returns 0, whatever it came to
  accepted_returned : (f : CarriedFamily) (l : CarriedLink) → table_of 1 t s I (lengths_of given) ≡ Ok (f, l) → returned_by (done_for t s I rows matrices terms results).answer.number ≡ 0
  unfolding done_for done_of
  accepted_returned f l e = by (asked_fit f l t s I).outcome refl
    where
      by : (x : FitResult (Dispersed Fitted)) → (asked_fit f l t s I).outcome ≡ x → returned_by (call_of t s I given).answer.number ≡ 0
      by (no_result end) q = rw (unfitted_answer_lem t s I given f l e end q) (end_returned end)
      by (result d) q = rw (fitted_number t s I given f l e d q) fitted_returned

  refused_done : (r : Refusal) → table_of 1 t s I (lengths_of given) ≡ Err r → done_for t s I rows matrices terms results ≡ done (blank_answer (refusal_number r) no_counts) rows matrices terms results
  unfolding done_for done_of results_by lent_for
  refused_done r e = rw (refused_left t s I given r e, ne_eqb (refusal_number r) 0 (refusal_some r)) refl

  pub call_kept : (counts : List ℕ) → ((told_by (done_for t s I rows matrices terms results) counts).returned ≡ 0 → ⊥)
      → AsLent (record { rows = rows; matrices = matrices; terms = terms; results = results; counts = counts }) (told_by (done_for t s I rows matrices terms results) counts).after
  unfolding told_by
  call_kept counts h = by (table_of 1 t s I (lengths_of given)) refl
    where
      by : (x : Result (CarriedFamily × CarriedLink) Refusal) → table_of 1 t s I (lengths_of given) ≡ x → AsLent (record { rows = rows; matrices = matrices; terms = terms; results = results; counts = counts }) (told_by (done_for t s I rows matrices terms results) counts).after
      by (Ok (f, l)) e = absurd (h (accepted_returned f l e))
      by (Err r) e = rw (refused_done r e) (record { rows = refl; matrices = refl; terms = refl; results = refl })

-- ---- by the reading, and by the room for the counts
answered_kept : (r : Read) (B : Buffers) → ((answered r B).returned ≡ 0 → ⊥) → AsLent B (answered r B).after
unfolding answered
answered_kept (faulty r b) B h = record { rows = refl; matrices = refl; terms = refl; results = refl }
answered_kept (sound j) B h =
    let k = call_kept j.settings j.shape _ B.rows B.matrices B.terms B.results B.counts h in
    record { rows = k.rows; matrices = k.matrices; terms = k.terms; results = k.results }

counted_kept : (r : Read) (B : Buffers) → ((counted r B).returned ≡ 0 → ⊥) → AsLent B (counted r B).after
unfolding counted
counted_kept r B h = by (leb counts_length (length B.counts)) refl
  where
    by : (b : Bool) → leb counts_length (length B.counts) ≡ b → AsLent B (counted r B).after
    by true e = rw e (answered_kept r B (λ (z : (answered r B).returned ≡ 0). h (rw e z)))
    by false e = rw e (record { rows = refl; matrices = refl; terms = refl; results = refl })

-- `fit_job`, `fit_job_theta`
pub fit_job_kept : (s : List ℕ) (B : Buffers) → ((fit_job_of s B).returned ≡ 0 → ⊥) → AsLent B (fit_job_of s B).after
unfolding fit_job_of
fit_job_kept s B h = counted_kept (read_of s) B h

pub fit_job_theta_kept : (s : List ℕ) (theta : List Float) (B : Buffers) → ((fit_job_theta_of s theta B).returned ≡ 0 → ⊥) → AsLent B (fit_job_theta_of s theta B).after
unfolding fit_job_theta_of
fit_job_theta_kept s theta B h = counted_kept (with_theta theta (read_of s)) B h
