-- The call of a job with many responses: each of them is told and given what the single call of the job with this response in place of its own gives, with its own parts of the buffers. Assumes nothing.
use Rattle.std.specs.Prelude.{Ok}
use mathlib.Core.Path.{◌≡◌, refl, ◌∙◌}
use mathlib.Core.Bool.{Bool, true, false}
use mathlib.Core.List.{List}
use Prim.Native.Nat.{ℕ, ◌<◌}
use native.Mathlib.Omega.{arith}
use lib.Dec.{leb}
use lib.Ieee.{Float}
use lib.ListN.{length}
use Rattle.model.specs.Inputs.{Inputs}
use Rattle.family.specs.Carried.{carried_family, carried_link}
use Rattle.family.specs.declared.carried.CarriedFamily.{CarriedFamily}
use Rattle.family.specs.declared.carried.CarriedLink.{CarriedLink}
use Rattle.table.proofs.When.{accepted_when}
use Rattle.job.specs.Job.{Job, sound, read_of}
use Rattle.jobfit.specs.Done.{inputs_of}
use Rattle.jobcall.specs.Told.{Buffers, Told, told, counts_length, answered}
use Rattle.many.specs.Many.{response_at, lent_to, single_of, after_to, verdict_for, many_of, job_with_y, many_answered, fit_many_of}
use Rattle.many.proofs.Alone.{lists_at}
use Rattle.many.proofs.Calls.{many_accepted, response_results, response_counts}
use Rattle.many.proofs.Refusals.{accepted_exactly}

module _ (s : List ℕ) (ys : List Float) (r : ℕ) (B : Buffers) (j : Job) (read : read_of s ≡ sound j) (zero-told : (fit_many_of s ys r B).returned ≡ 0) where
  -- the lists of the job with all responses
  abbrev pub given : Inputs
  given = inputs_of (job_with_y ys j)

  many_is : fit_many_of s ys r B ≡ many_of r j.settings j.shape given B
  unfolding fit_many_of many_answered
  many_is = by (leb counts_length (length B.counts)) refl
    where
      by : (b : Bool) → leb counts_length (length B.counts) ≡ b → fit_many_of s ys r B ≡ many_of r j.settings j.shape given B
      by true e = rw (e, read) refl
      by false e = let two : ◌≡◌ {A = ℕ} 2 0 = rw e at zero-told in absurd (omega (arith, two))

  -- the verdict on all of them
  pub verdict : (f : CarriedFamily) × (l : CarriedLink) × (verdict_for r j.settings j.shape given B ≡ Ok (f, l))
  unfolding verdict_for
  verdict =
      let z : (many_of r j.settings j.shape given B).returned ≡ 0 = rw (← many_is) zero-told in
      let p = (accepted_exactly r j.settings j.shape given B).0 z in
      let f = carried_family j.settings.family in
      let l = carried_link j.settings.link in
      (f, l, (accepted_when r j.settings j.shape given _ f l).1 (p, (refl, refl)))

  -- the buffers after the calls, one by one
  pub calls : fit_many_of s ys r B ≡ told 0 (after_to j.settings j.shape given r B)
  calls = many_is ∙ many_accepted r j.settings j.shape given B verdict.0 verdict.1 verdict.2

  -- the single call of response i: the job with this response in place of its own, and its own parts of the buffers
  abbrev pub single : ℕ → Told
  single i = answered (sound (job_with_y (response_at j.settings.n i ys) j)) (lent_to j.settings i B)

  single_is : (i : ℕ) → single i ≡ single_of j.settings j.shape (lists_at j.settings j.shape given i) (lent_to j.settings i B)
  unfolding answered
  single_is i = refl

  module _ (i : ℕ) (h : i < r) where
    pub single_results : (lent_to j.settings i (fit_many_of s ys r B).after).results ≡ (single i).after.results
    single_results = rw (calls, single_is i) (response_results r j.settings j.shape given B verdict.0 verdict.1 verdict.2 i h)

    pub single_counts : (lent_to j.settings i (fit_many_of s ys r B).after).counts ≡ (single i).after.counts
    single_counts = rw (calls, single_is i) (response_counts r j.settings j.shape given B verdict.0 verdict.1 verdict.2 i h)
