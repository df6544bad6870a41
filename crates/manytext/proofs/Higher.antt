-- A higher limit changes nothing of what is printed of a response whose number is not 13, whatever the others came to. Document 02, P13. Assumes nothing.
use Prim.{tt}
use Rattle.family.specs.declared.carried.CarriedFamily.{CarriedFamily}
use Rattle.family.specs.declared.carried.CarriedLink.{CarriedLink}
use Rattle.model.specs.declared.ends.Refusal.{Refusal}
use Rattle.std.specs.Prelude.{Result, Ok, Err}
use mathlib.Core.Path.{◌≡◌, refl, ap}
use mathlib.Core.List.{List, ◌++◌}
use Prim.Native.Nat.{ℕ, zero, suc, ◌/◌, ◌≤◌, ◌<◌}
use native.Mathlib.Nat.{le_refl}
use native.Mathlib.Omega.{arith}
use lib.Ieee.{Float}
use lib.ListN.{length}
use Rattle.model.specs.Names.{limit_of}
use Rattle.job.specs.Faults.{fault_of}
use Rattle.job.specs.Lists.{join_to}
use Rattle.job.specs.Job.{Job, job_of, read_by, read_of}
use Rattle.job_back.proofs.Limits.{limited_job, limited_bytes, limited_read}
use Rattle.lines.specs.Lines.{response_line}
use Rattle.call.specs.Call.{Left}
use Rattle.call.proofs.Higher.{call_same}
use Rattle.jobfit.specs.Done.{inputs_of}
use Rattle.many.specs.Many.{response_at, job_with_y, verdict_for}
use Rattle.many.proofs.Higher.{verdict_limited}
use Rattle.output.specs.Output.{slices_for, call_for, left_text, output_by}
use Rattle.manytext.specs.Input.{job_in, rest_in, numbers_in}
use Rattle.manytext.specs.Output.{many_lent, response_printed, printed_by, printed_of, many_printed, many_output_of}

-- the number that response i of ys is told
abbrev pub number_of : Job → List Float → ℕ → ℕ
number_of j ys i = (call_for (job_with_y (response_at j.settings.n i ys) j)).answer.number

-- pieces that are alike, joined
join_alike : (f g : ℕ → List ℕ) (r : ℕ) → ((i : ℕ) → i < r → f i ≡ g i) → join_to r f ≡ join_to r g
unfolding join_to
join_alike f g zero h = refl
join_alike f g (suc r) h = rw (join_alike f g r (λ i l. h i (omega (arith, l))), h r (le_refl _)) refl

module _ (j : Job) (ys : List Float) (M : ℕ) (higher : limit_of j.settings.limit j.settings.link ≤ M) (few : M ≤ 1000) where
  -- a response, whatever the others came to
  pub response_printed_lem : (i : ℕ) → (number_of j ys i ≡ 13 → ⊥) → response_printed (limited_job M j) ys i ≡ response_printed j ys i
  unfolding response_printed output_by slices_for
  response_printed_lem i h =
      ap (λ (l : Left). response_line i ++ left_text l) (call_same j.settings j.shape (inputs_of (job_with_y (response_at j.settings.n i ys) j)) (slices_for j.settings) M higher few h)

  -- all r of them
  all_printed : (r : ℕ) → ((i : ℕ) → i < r → number_of j ys i ≡ 13 → ⊥) → printed_of r (limited_job M j) ys ≡ printed_of r j ys
  unfolding printed_of printed_by
  all_printed r h =
      rw (verdict_limited j.settings j.shape (inputs_of (job_with_y ys j)) r many_lent M higher few)
      (by (verdict_for r j.settings j.shape (inputs_of (job_with_y ys j)) many_lent))
    where
      by : (x : Result (CarriedFamily × CarriedLink) Refusal) → printed_by x r (limited_job M j) ys ≡ printed_by x r j ys
      by (Err x) = refl
      by (Ok (f, l)) = join_alike (response_printed (limited_job M j) ys) (response_printed j ys) r (λ i l'. response_printed_lem i (h i l'))

-- the program: an input with the same responses behind the job with the limit M
module _ (s t : List ℕ) (M : ℕ) (e : fault_of (job_in s) ≡ Ok tt) (job : job_in t ≡ limited_bytes M (job_in s)) (rest : rest_in t ≡ rest_in s)
    (higher : limit_of (job_of (job_in s)).settings.limit (job_of (job_in s)).settings.link ≤ M) (few : M ≤ 1000) where
  pub many_printed_same : ((i : ℕ) → i < length (rest_in s) / 8 / (job_of (job_in s)).settings.n → number_of (job_of (job_in s)) (numbers_in (rest_in s)) i ≡ 13 → ⊥) → many_output_of t ≡ many_output_of s
  unfolding many_output_of many_printed read_of read_by
  many_printed_same h =
      rw (job, rest, limited_read (job_in s) M e few, e)
      (all_printed (job_of (job_in s)) (numbers_in (rest_in s)) M higher few (length (rest_in s) / 8 / (job_of (job_in s)).settings.n) h)
