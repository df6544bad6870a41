-- No call with a job returns 5: the table has no such number, and neither has the reader. Document 02, P8. Assumes nothing.
use Rattle.std.specs.Prelude.{Ok, Err}
use mathlib.Core.Path.{◌≡◌, refl}
use mathlib.Core.Bool.{Bool, true, false}
use mathlib.Core.List.{List}
use Prim.Native.Nat.{ℕ}
use native.Mathlib.Omega.{arith}
use lib.Dec.{leb}
use lib.Ieee.{Float}
use lib.ListN.{length}
use Rattle.model.specs.Answer.{is_end}
use Rattle.model.specs.Inputs.{Inputs}
use Rattle.model.specs.declared.sizes.Shape.{Shape}
use Rattle.model.specs.declared.sizes.Settings.{Settings}
use Rattle.job.specs.Faults.{Checked, fault_of}
use Rattle.job.specs.Job.{Read, faulty, sound, read_by, read_of}
use Rattle.job.proofs.FaultNumbers.{fault_numbers}
use Rattle.call.proofs.When.{never_five}
use Rattle.jobfit.specs.Done.{lent_for, done_of, done_for}
use Rattle.jobcall.specs.Told.{Buffers, counts_length, returned_by, told_by, answered, counted, with_theta, fit_job_of, fit_job_theta_of}

-- what is returned is the answer's number, or 0
returned_is : (k : ℕ) (b : Bool) → is_end k ≡ b → returned_by k ≡ 5 → k ≡ 5
unfolding returned_by
returned_is k true e h = absurd (omega (arith, rw e at h))
returned_is k false e h = rw e at h

-- ---- one call
pub call_never : (t : Settings) (s : Shape) (I : Inputs) (rows matrices terms results : List Float) (counts : List ℕ) → (told_by (done_for t s I rows matrices terms results) counts).returned ≡ 5 → ⊥
unfolding told_by done_for done_of
call_never t s I rows matrices terms results counts e = never_five t s I (lent_for t rows matrices terms results) (returned_is _ _ refl e)

-- ---- by the reading, and by the room for the counts
-- a job that cannot be read has another number
abbrev OtherFault : Read → Type 0
OtherFault (faulty r b) = r ≡ 5 → ⊥
OtherFault (sound j) = Unit {0}

answered_never : (r : Read) (B : Buffers) → OtherFault r → (answered r B).returned ≡ 5 → ⊥
unfolding answered
answered_never (faulty r b) B h e = h e
answered_never (sound j) B h e = call_never j.settings j.shape _ B.rows B.matrices B.terms B.results B.counts e

counted_never : (r : Read) (B : Buffers) → OtherFault r → (counted r B).returned ≡ 5 → ⊥
unfolding counted
counted_never r B h e = by (leb counts_length (length B.counts)) refl
  where
    by : (b : Bool) → leb counts_length (length B.counts) ≡ b → ⊥
    by true q = answered_never r B h (rw q at e)
    by false q = omega (arith, rw q at e)

read_other : (s : List ℕ) → OtherFault (read_of s)
unfolding read_of read_by
read_other s = by (fault_of s) refl
  where
    by : (f : Checked) → fault_of s ≡ f → OtherFault (read_of s)
    by (Ok t) e = rw e tt
    by (Err x) e =
        rw e (rw e at (fault_numbers (λ k. k ≡ 5 → ⊥) (λ n. omega arith) (λ n. omega arith) (λ n. omega arith) (λ n. omega arith) (λ n. omega arith) (λ n. omega arith) (λ n. omega arith) s))

theta_other : (theta : List Float) (r : Read) → OtherFault r → OtherFault (with_theta theta r)
unfolding with_theta
theta_other theta (faulty r b) h = h
theta_other theta (sound j) h = tt

-- `fit_job`, `fit_job_theta`
pub fit_job_never : (s : List ℕ) (B : Buffers) → (fit_job_of s B).returned ≡ 5 → ⊥
unfolding fit_job_of
fit_job_never s B e = counted_never (read_of s) B (read_other s) e

pub fit_job_theta_never : (s : List ℕ) (theta : List Float) (B : Buffers) → (fit_job_theta_of s theta B).returned ≡ 5 → ⊥
unfolding fit_job_theta_of
fit_job_theta_never s theta B e = counted_never (with_theta theta (read_of s)) B (theta_other theta (read_of s) (read_other s)) e
