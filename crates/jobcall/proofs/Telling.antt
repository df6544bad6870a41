-- What is told of a job: by its reading, by the theta that is asked for, and by the room for the counts. Assumes nothing.
use mathlib.Core.Path.{◌≡◌, refl, ◌∙◌}
use mathlib.Core.Bool.{Bool, true, false, cond}
use mathlib.Core.List.{List}
use Prim.Native.Nat.{ℕ, ◌≤◌, ◌<◌}
use borrow.Author.Tests.{le-leb, lt-leb}
use lib.Ieee.{Float}
use lib.ListN.{length, take}
use Rattle.model.specs.Account.{no_counts}
use Rattle.model.specs.Answer.{blank_answer}
use Rattle.model.specs.declared.ends.Answer.{Answer}
use Rattle.model.specs.declared.sizes.Shape.{Shape}
use Rattle.model.specs.declared.sizes.Settings.{Settings}
use Rattle.job.specs.Lists.{laid}
use Rattle.job.specs.Job.{Read, faulty, job_of, read_of}
use Rattle.model.specs.Inputs.{Inputs}
use Rattle.reader.specs.declared.whole.Found.{Found}
use Rattle.reader.specs.declared.whole.Header.{Header}
use Rattle.jobfit.specs.Done.{done, done_for}
use Rattle.jobfit.specs.Room.{fronts_of}
use Rattle.jobfit.proofs.Reading.{beside, ReadJob}
use Rattle.jobcall.specs.Told.{Buffers, buffers, Told, told, counts_length, counts_of, returned_by, told_by, answered, counted, with_theta, theta_by}

-- ---- a job that cannot be read
-- it is the same with any theta
refused_by : (own : Bool) (given : List Float) (r c : ℕ) → theta_by own given (faulty r c) ≡ faulty r c
unfolding with_theta
refused_by true given r c = refl
refused_by false given r c = refl

pub refused_told : (own : Bool) (given : List Float) (s : List ℕ) (rows matrices terms results : List Float) (counts after : List ℕ) (r c : ℕ) → read_of s ≡ faulty r c
    → after ≡ laid (counts_of (blank_answer r no_counts) c) counts
    → told r (buffers rows matrices terms results after) ≡ answered (theta_by own given (read_of s)) (buffers rows matrices terms results counts)
unfolding answered
refused_told own given s rows matrices terms results counts after r c t e = rw (t, refused_by own given r c, e) refl

-- ---- a job that was read is called, with its own theta or the one beside it
pub called_told : (own : Bool) (given : List Float) (s : List ℕ) (h : Header) (g : Found) (a : Inputs) → ReadJob s h g a → (chosen : List Float) → chosen ≡ cond own (take h.thetas a.theta) given
    → (rows matrices terms results : List Float) (counts : List ℕ) (x : Told)
    → x ≡ told_by (done_for h.settings g.shape (fronts_of h (beside chosen a)) rows matrices terms results) counts
    → x ≡ answered (theta_by own given (read_of s)) (buffers rows matrices terms results counts)
unfolding answered with_theta
called_told true given s h g a j chosen e rows matrices terms results counts x d =
    let q : chosen ≡ (job_of s).theta = e ∙ j.own in
    d ∙ rw (j.read, q, j.at (job_of s).theta, j.settings, j.shape) refl
called_told false given s h g a j chosen e rows matrices terms results counts x d =
    let q : chosen ≡ given = e in
    d ∙ rw (j.read, q, j.at given, j.settings, j.shape) refl

-- ---- what is told of a call that is done
pub read_told : (t : Settings) (s : Shape) (I : Inputs) (rows₀ matrices₀ terms₀ results₀ rows matrices terms results : List Float) (counts after : List ℕ) (a : Answer) (r : ℕ)
    → done a rows matrices terms results ≡ done_for t s I rows₀ matrices₀ terms₀ results₀
    → after ≡ laid (counts_of a 0) counts
    → r ≡ returned_by a.number
    → told r (buffers rows matrices terms results after) ≡ told_by (done_for t s I rows₀ matrices₀ terms₀ results₀) counts
unfolding told_by
read_told t s I rows₀ matrices₀ terms₀ results₀ rows matrices terms results counts after a r d q k = rw (← d, q, k) refl

-- ---- without room for the counts, and with
pub short_told : (r : Read) (B : Buffers) → length B.counts < counts_length → told 2 B ≡ counted r B
unfolding counted
short_told r B l = rw (lt-leb counts_length (length B.counts) l) refl

pub long_told : (r : Read) (B : Buffers) (t : Told) → counts_length ≤ length B.counts → t ≡ answered r B → t ≡ counted r B
unfolding counted
long_told r B t l e = rw (le-leb counts_length (length B.counts) l) e
