-- A higher limit changes nothing of what a call of a job tells and leaves where the number told is not 13, and no count of its work shrinks. Document 02, P13. Assumes nothing.
use Prim.{tt}
use Rattle.std.specs.Prelude.{Ok}
use mathlib.Core.Path.{◌≡◌, refl, ap}
use mathlib.Core.Bool.{Bool, true, false}
use mathlib.Core.List.{List}
use Prim.Native.Nat.{ℕ, ◌≤◌}
use native.Mathlib.Omega.{arith}
use lib.Dec.{leb}
use lib.Ieee.{Float}
use lib.ListN.{length}
use Rattle.base.specs.Sum.{◌!!◌}
use Rattle.model.specs.Account.{AtMost}
use Rattle.model.specs.Inputs.{Inputs}
use Rattle.model.specs.Names.{limit_of}
use Rattle.model.specs.declared.ends.Answer.{Answer}
use Rattle.model.specs.declared.sizes.Shape.{Shape}
use Rattle.model.specs.declared.sizes.Settings.{Settings}
use Rattle.job.specs.Faults.{fault_of}
use Rattle.job.specs.Lists.{laid}
use Rattle.job.specs.Job.{Job, sound, job_of, read_by, read_of}
use Rattle.job_back.proofs.Limits.{limited_job, limited_bytes, limited_read}
use Rattle.call.specs.Call.{Left}
use Rattle.call.proofs.Higher.{limited, call_same, call_account_grows}
use Rattle.jobfit.specs.Done.{inputs_of, beta_length, lent_for, Done, done_of, done_for}
use Rattle.jobcall.specs.Told.{Buffers, Told, counts_length, counts_of, told_by, answered, counted, with_theta, fit_job_of, fit_job_theta_of}

-- the number that a call tells
abbrev pub number_in : Told → ℕ
number_in t = t.after.counts !! 0

-- no count of the work is lower: inner fits, solves, tries, points, and the four parts of the tries
pub record NoLower (before after : List ℕ) : Type 0 where
  pub fits : (before !! 4) ≤ (after !! 4)
  pub solves : (before !! 5) ≤ (after !! 5)
  pub tries : (before !! 6) ≤ (after !! 6)
  pub points : (before !! 7) ≤ (after !! 7)
  pub eta : (before !! 10) ≤ (after !! 10)
  pub mean : (before !! 11) ≤ (after !! 11)
  pub pwrss : (before !! 12) ≤ (after !! 12)
  pub ok : (before !! 13) ≤ (after !! 13)

pub as_before : (cs : List ℕ) → NoLower cs cs
as_before cs =
    record { fits = omega arith; solves = omega arith; tries = omega arith; points = omega arith; eta = omega arith; mean = omega arith; pwrss = omega arith; ok = omega arith }

-- ---- a call that is done
module _ (t : Settings) (s : Shape) (I : Inputs) (rows matrices terms results : List Float) (M : ℕ) (higher : limit_of t.limit t.link ≤ M) (few : M ≤ 1000) where
  pub done_same : ((done_for t s I rows matrices terms results).answer.number ≡ 13 → ⊥) → done_for (limited M t) s I rows matrices terms results ≡ done_for t s I rows matrices terms results
  unfolding done_for done_of lent_for beta_length
  done_same h = ap (λ (l : Left). done_of l results) (call_same t s I (lent_for t rows matrices terms results) M higher few h)

  pub done_grows : AtMost (done_for (limited M t) s I rows matrices terms results).answer.account (done_for t s I rows matrices terms results).answer.account
  unfolding done_for done_of lent_for beta_length
  done_grows = call_account_grows t s I (lent_for t rows matrices terms results) M higher few

-- and its counts
pub counts_grow : (a b : Answer) (cs ds : List ℕ) → AtMost b.account a.account → NoLower (laid (counts_of a 0) cs) (laid (counts_of b 0) ds)
unfolding counts_of laid
counts_grow a b cs ds g = record { fits = g.fits; solves = g.solves; tries = g.tries; points = g.points; eta = g.eta; mean = g.mean; pwrss = g.pwrss; ok = g.ok }

-- ---- a job that was read
module _ (j : Job) (B : Buffers) (M : ℕ) (higher : limit_of j.settings.limit j.settings.link ≤ M) (few : M ≤ 1000) where
  answered_same : (number_in (answered (sound j) B) ≡ 13 → ⊥) → answered (sound (limited_job M j)) B ≡ answered (sound j) B
  unfolding answered told_by counts_of laid
  answered_same h =
      ap (λ (d : Done). told_by d B.counts) (done_same j.settings j.shape (inputs_of j) B.rows B.matrices B.terms B.results M higher few h)

  answered_grows : NoLower (answered (sound j) B).after.counts (answered (sound (limited_job M j)) B).after.counts
  unfolding answered told_by
  answered_grows = counts_grow _ _ B.counts B.counts (done_grows j.settings j.shape (inputs_of j) B.rows B.matrices B.terms B.results M higher few)

  -- without room for the counts nothing is looked at
  counted_same : (number_in (counted (sound j) B) ≡ 13 → ⊥) → counted (sound (limited_job M j)) B ≡ counted (sound j) B
  unfolding counted
  counted_same h = by (leb counts_length (length B.counts)) refl
    where
      by : (b : Bool) → leb counts_length (length B.counts) ≡ b → counted (sound (limited_job M j)) B ≡ counted (sound j) B
      by true e = rw e (answered_same (λ (z : number_in (answered (sound j) B) ≡ 13). h (rw e z)))
      by false e = rw e refl

  counted_grows : NoLower (counted (sound j) B).after.counts (counted (sound (limited_job M j)) B).after.counts
  unfolding counted
  counted_grows = by (leb counts_length (length B.counts)) refl
    where
      by : (b : Bool) → leb counts_length (length B.counts) ≡ b → NoLower (counted (sound j) B).after.counts (counted (sound (limited_job M j)) B).after.counts
      by true e = rw e answered_grows
      by false e = rw e (as_before B.counts)

-- ---- the bytes of a sound job, and a limit from its own to 1000; one that is not given counts as 100, with the inverse link as 1000
module _ (s : List ℕ) (e : fault_of s ≡ Ok tt) (B : Buffers) (M : ℕ) (higher : limit_of (job_of s).settings.limit (job_of s).settings.link ≤ M) (few : M ≤ 1000) where
  sound_read : read_of s ≡ sound (job_of s)
  unfolding read_of read_by
  sound_read = rw e refl

  -- `fit_job`
  pub told_same : (number_in (fit_job_of s B) ≡ 13 → ⊥) → fit_job_of (limited_bytes M s) B ≡ fit_job_of s B
  unfolding fit_job_of
  told_same h = rw (limited_read s M e few, sound_read) (counted_same (job_of s) B M higher few (rw sound_read at h))

  pub told_grows : NoLower (fit_job_of s B).after.counts (fit_job_of (limited_bytes M s) B).after.counts
  unfolding fit_job_of
  told_grows = rw (limited_read s M e few, sound_read) (counted_grows (job_of s) B M higher few)

  -- `fit_job_theta`
  module _ (theta : List Float) where
    abbrev beside : Job
    beside = let j = job_of s in record { settings = j.settings; shape = j.shape; theta = theta; y = j.y; weights = j.weights; offset = j.offset; x = j.x; z = j.z }

    pub theta_told_same : (number_in (fit_job_theta_of s theta B) ≡ 13 → ⊥) → fit_job_theta_of (limited_bytes M s) theta B ≡ fit_job_theta_of s theta B
    unfolding fit_job_theta_of with_theta
    theta_told_same h = rw (limited_read s M e few, sound_read) (counted_same beside B M higher few (rw sound_read at h))

    pub theta_told_grows : NoLower (fit_job_theta_of s theta B).after.counts (fit_job_theta_of (limited_bytes M s) theta B).after.counts
    unfolding fit_job_theta_of with_theta
    theta_told_grows = rw (limited_read s M e few, sound_read) (counted_grows beside B M higher few)
