-- What the program prints for a job, case by case: a refusal with its byte, the table's at byte 0, an end line alone, or an end line with the values. Assumes nothing.
use Prim.{tt}
use Rattle.std.specs.Prelude.{Ok, Err}
use mathlib.Core.Path.{◌≡◌, refl, ap, ◌∙◌}
use mathlib.Core.List.{List}
use Prim.Native.Nat.{ℕ}
use Rattle.model.specs.Account.{no_counts}
use Rattle.model.specs.Answer.{refusal_number, end_number, blank_answer, unfitted_answer}
use Rattle.model.specs.Items.{tally}
use Rattle.model.specs.declared.ends.Answer.{Answer}
use Rattle.model.specs.declared.ends.End.{End}
use Rattle.model.specs.declared.ends.End.TheVariants.{SystemPivot, NormalPivot, NoStep, NoStop}
use Rattle.model.specs.declared.ends.Refusal.{Refusal}
use Rattle.model.specs.declared.ends.Refusal.TheVariants.{OutOfRange, Responses, Lengths, Work, SparseRows, NotFinite, LinkForFamily, ResponseRange, StartFit}
use Rattle.family.specs.declared.carried.CarriedFamily.{CarriedFamily}
use Rattle.family.specs.declared.carried.CarriedLink.{CarriedLink}
use Rattle.results.specs.Nine.{Results, results_of}
use Rattle.dispersion.specs.Rounds.{result, no_result, Dispersed}
use Rattle.job.specs.Faults.{fault, fault_of}
use Rattle.job.specs.Job.{job_of, read_by, read_of}
use Rattle.lines.specs.Lines.{end_line, refused_line}
use Rattle.call.specs.Fit.{Fitted, answer_of}
use Rattle.call.specs.Call.{fit_left}
use Rattle.call.proofs.Leaves.{refused_left, accepted_left, unfitted_answer_lem, fitted_results, fitted_number}
use Rattle.report.specs.Report.{fitted_text, answer_text}
use Rattle.jobfit.specs.Done.{inputs_of}
use Rattle.output.specs.Output.{slices_for, call_for, left_text, output_by, output_of}
use Rattle.printed.specs.Asked.{verdict_on, given_by, fit_for}

-- ---- a job that cannot be read
pub job_refused : (s : List ℕ) (r b : ℕ) → fault_of s ≡ Err (fault r b) → output_of s ≡ refused_line r b
unfolding output_of output_by read_of read_by
job_refused s r b e = rw e

-- ---- a sound job
sound_called : (s : List ℕ) → fault_of s ≡ Ok tt → output_of s ≡ left_text (call_for (job_of s))
unfolding output_of output_by read_of read_by
sound_called s e = rw e

refused_text : (r : Refusal) (R : Results) → answer_text (blank_answer (refusal_number r) no_counts) R ≡ refused_line (refusal_number r) 0
unfolding answer_text
refused_text OutOfRange R = refl
refused_text Responses R = refl
refused_text Lengths R = refl
refused_text Work R = refl
refused_text SparseRows R = refl
refused_text NotFinite R = refl
refused_text LinkForFamily R = refl
refused_text ResponseRange R = refl
refused_text StartFit R = refl

-- what the table refuses is told at byte 0
pub table_refused : (s : List ℕ) (r : Refusal) → fault_of s ≡ Ok tt → verdict_on s ≡ Err r → output_of s ≡ refused_line (refusal_number r) 0
table_refused s r e v =
    sound_called s e
    ∙ ap left_text (refused_left (job_of s).settings (job_of s).shape (inputs_of (job_of s)) (slices_for (job_of s).settings) r v)
    ∙ refused_text r (slices_for (job_of s).settings).results

unfitted_text : (e : End) (a : Answer) (R : Results) → a.number ≡ end_number e → answer_text a R ≡ end_line a
unfolding answer_text
unfitted_text SystemPivot a R h = rw h
unfitted_text NormalPivot a R h = rw h
unfitted_text NoStep a R h = rw h
unfitted_text NoStop a R h = rw h

module _ (s : List ℕ) (f : CarriedFamily) (l : CarriedLink) (e : fault_of s ≡ Ok tt) (v : verdict_on s ≡ Ok (f, l)) where
  -- ends 10 to 13 have their line alone, with the tally of what was done
  pub unfitted_printed : (end : End) → (fit_for f l s).outcome ≡ no_result end → output_of s ≡ end_line (unfitted_answer end (tally (fit_for f l s).items))
  unfolding unfitted_answer
  unfitted_printed end h =
      let a = unfitted_answer_lem (job_of s).settings (job_of s).shape (inputs_of (job_of s)) (slices_for (job_of s).settings) f l v end h in
      sound_called s e ∙ unfitted_text end (call_for (job_of s)).answer (call_for (job_of s)).lent.results (ap (λ (t : Answer). t.number) a) ∙ ap end_line a

  fitted_answer_lem : (call_for (job_of s)).answer ≡ answer_of (fit_for f l s)
  unfolding fit_left
  fitted_answer_lem = rw (accepted_left (job_of s).settings (job_of s).shape (inputs_of (job_of s)) (slices_for (job_of s).settings) f l v) refl

  fitted_told : (a : Answer) (R : Results) → a.number ≡ 0 → answer_text a R ≡ fitted_text a R
  unfolding answer_text
  fitted_told a R h = rw h

  -- a fit has its end line, its deviance, phi and the results of its last mode
  pub fitted_printed : (d : Dispersed Fitted) → (fit_for f l s).outcome ≡ result d → output_of s ≡ fitted_text (answer_of (fit_for f l s)) (results_of (given_by f l s) d.last.mode)
  fitted_printed d h =
      let L = slices_for (job_of s).settings in
      let number = fitted_number (job_of s).settings (job_of s).shape (inputs_of (job_of s)) L f l v d h in
      let results = fitted_results (job_of s).settings (job_of s).shape (inputs_of (job_of s)) L f l v d h in
      sound_called s e ∙ fitted_told (call_for (job_of s)).answer (call_for (job_of s)).lent.results number ∙ rw (fitted_answer_lem, results) refl
