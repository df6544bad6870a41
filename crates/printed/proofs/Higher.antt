-- A higher limit changes nothing in what is printed of a job whose number is not 13, and no count shrinks. Document 02, P13. Assumes nothing.
use Prim.{tt}
use Rattle.std.specs.Prelude.{Ok}
use mathlib.Core.Path.{◌≡◌, ap, ◌∙◌}
use mathlib.Core.List.{List}
use Prim.Native.Nat.{ℕ, ◌≤◌}
use Rattle.model.specs.Account.{AtMost}
use Rattle.model.specs.Names.{limit_of}
use Rattle.job.specs.Faults.{fault_of}
use Rattle.job.specs.Job.{job_of, read_by, read_of}
use Rattle.job_back.proofs.Limits.{limited_job, limited_bytes, limited_read}
use Rattle.call.proofs.Higher.{call_same, call_account_grows}
use Rattle.jobfit.specs.Done.{inputs_of}
use Rattle.output.specs.Output.{slices_for, call_for, left_text, output_by, output_of}

-- a sound job, and a limit from its own to 1000; one that is not given counts as 100, with the inverse link as 1000
module _ (s : List ℕ) (e : fault_of s ≡ Ok tt) (M : ℕ) (higher : limit_of (job_of s).settings.limit (job_of s).settings.link ≤ M) (few : M ≤ 1000) where
  pub call_limited : ((call_for (job_of s)).answer.number ≡ 13 → ⊥) → call_for (limited_job M (job_of s)) ≡ call_for (job_of s)
  unfolding slices_for
  call_limited h = let j = job_of s in call_same j.settings j.shape (inputs_of j) (slices_for j.settings) M higher few h

  pub output_same : ((call_for (job_of s)).answer.number ≡ 13 → ⊥) → output_of (limited_bytes M s) ≡ output_of s
  unfolding output_of output_by read_of read_by
  output_same h = ap output_by (limited_read s M e few) ∙ rw e (ap left_text (call_limited h))

  pub account_grows : AtMost (call_for (limited_job M (job_of s))).answer.account (call_for (job_of s)).answer.account
  unfolding slices_for
  account_grows = let j = job_of s in call_account_grows j.settings j.shape (inputs_of j) (slices_for j.settings) M higher few
